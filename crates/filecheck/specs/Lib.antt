pub mod Check
pub mod October
pub mod Theorems
