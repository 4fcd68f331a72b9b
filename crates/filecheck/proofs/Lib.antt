pub mod Accepted
pub mod Faults
pub mod Found
pub mod October
