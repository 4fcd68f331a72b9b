pub mod Decoded
pub mod Rows
pub mod Table
pub mod Counted
