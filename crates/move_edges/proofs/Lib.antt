pub mod Passed
pub mod Meeting
pub mod Leaving
pub mod Ways
pub mod Gathering
pub mod Following
