pub mod Looks
pub mod RightKinds
