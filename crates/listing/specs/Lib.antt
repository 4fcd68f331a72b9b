pub mod Listing
pub mod Run
pub mod Steps
pub mod October
