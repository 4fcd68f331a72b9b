pub mod Board
pub mod Report
pub mod Bodies
