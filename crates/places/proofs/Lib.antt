pub mod BoardPlaces
pub mod ReportPlaces
