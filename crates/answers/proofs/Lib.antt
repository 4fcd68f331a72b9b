pub mod Answers
pub mod Numbered
pub mod Judged
