pub mod Calls
pub mod Codes
pub mod Inner
pub mod Words
pub mod Told
