pub mod Board
pub mod Bodies
pub mod Bounds
pub mod Report
