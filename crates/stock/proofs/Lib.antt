pub mod Answers
pub mod Counting
