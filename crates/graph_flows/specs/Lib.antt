pub mod Paths
pub mod Trails
pub mod Inner
