pub mod Numbers
pub mod LookUp
pub mod Examples
