pub mod Limits
pub mod Whole
pub mod Record
