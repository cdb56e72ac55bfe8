pub mod Sets
pub mod Inner
