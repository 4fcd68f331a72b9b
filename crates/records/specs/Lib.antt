pub mod Records
pub mod Bodies
pub mod Network
pub mod Table
