pub mod Replies
pub mod Machine
pub mod Lent
pub mod Inner
