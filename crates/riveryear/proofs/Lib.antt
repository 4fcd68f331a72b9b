pub mod Digits
pub mod Keeping
