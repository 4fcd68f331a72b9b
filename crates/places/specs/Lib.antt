pub mod Board
pub mod Report
