pub mod Moved
pub mod Parts
pub mod Guard
pub mod Bounds
