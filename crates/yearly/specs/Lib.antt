pub mod Years
pub mod Opening
