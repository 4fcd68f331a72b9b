pub mod Dues
pub mod Returning
