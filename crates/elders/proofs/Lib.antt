pub mod Records
pub mod Calls
pub mod Starts
pub mod Permits
pub mod Theorems
pub mod Season
