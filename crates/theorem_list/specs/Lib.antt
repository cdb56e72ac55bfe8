pub mod Player
pub mod Complete
pub mod Faithful
pub mod Reported
