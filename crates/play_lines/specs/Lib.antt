pub mod Orders
pub mod MoveLines
pub mod Scans
pub mod Inner
