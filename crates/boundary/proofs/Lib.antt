pub mod Calls
pub mod Kept
