pub mod Cases
pub mod RowRules
pub mod Sources
