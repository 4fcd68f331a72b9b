pub mod State
pub mod Finish
pub mod Lines
