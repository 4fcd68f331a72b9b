pub mod OpenedBoard
pub mod Openings
