pub mod Losses
pub mod Noting
pub mod Closing
