pub mod Elders
pub mod Season
