pub mod Bodies
pub mod Examples
pub mod LookUp
