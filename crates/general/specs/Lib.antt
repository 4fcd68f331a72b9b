pub mod Sums
pub mod Tables
pub mod Tests
pub mod Routes
pub mod Parts
