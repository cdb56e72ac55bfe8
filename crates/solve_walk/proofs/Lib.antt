pub mod Packed
pub mod Loops
pub mod Charts
pub mod Walks
