pub mod Codes
pub mod Cycled
pub mod Raising
pub mod Shifting
