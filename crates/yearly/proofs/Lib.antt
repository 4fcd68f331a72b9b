pub mod Years
pub mod Bodies
pub mod Opened
