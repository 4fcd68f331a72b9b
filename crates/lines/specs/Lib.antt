pub mod Texts
pub mod Putting
