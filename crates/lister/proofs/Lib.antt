pub mod Begun
pub mod Stepping
pub mod Lent
pub mod Cutting
pub mod Passing
