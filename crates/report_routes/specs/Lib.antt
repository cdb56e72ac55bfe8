pub mod Routes
pub mod Tables
pub mod Inner
