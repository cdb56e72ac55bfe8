pub mod Sums
pub mod Every
pub mod Refused
