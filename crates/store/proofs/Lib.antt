pub mod Answers
pub mod Changed
pub mod Theorems
