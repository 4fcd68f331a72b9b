pub mod File
pub mod Sections
