pub mod Month
pub mod Run
