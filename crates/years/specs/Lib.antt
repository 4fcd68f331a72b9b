pub mod Years
pub mod Theorems
pub mod Runs
