pub mod Bound
pub mod Invariant
pub mod Allowed
pub mod Walked
pub mod Potential
pub mod Cycles
