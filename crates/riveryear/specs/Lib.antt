pub mod Words
pub mod Going
