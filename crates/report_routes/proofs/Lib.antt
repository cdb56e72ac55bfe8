pub mod Loops
pub mod Filling
pub mod Read
pub mod Standing
