pub mod Noted
pub mod Surveyed
pub mod Told
