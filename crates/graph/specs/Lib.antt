pub mod Graph
pub mod Bitsets
