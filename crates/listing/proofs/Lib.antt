pub mod Steps
pub mod Blocks
pub mod October
