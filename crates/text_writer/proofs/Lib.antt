pub mod Writing
pub mod WritesBack
