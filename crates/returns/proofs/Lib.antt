pub mod Shares
pub mod Points
