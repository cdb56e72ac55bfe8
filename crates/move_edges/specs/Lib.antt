pub mod Singular
pub mod Incidence
pub mod Marking
pub mod Inner
