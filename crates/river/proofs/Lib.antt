pub mod Table
pub mod Levels
pub mod Walks
