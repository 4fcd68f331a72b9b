pub mod Sheets
pub mod Rest
pub mod Calls
pub mod Runs
pub mod Theorems
