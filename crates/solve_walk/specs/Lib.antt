pub mod Walk
pub mod Chart
pub mod Inner
