pub mod Grants
pub mod Stages
