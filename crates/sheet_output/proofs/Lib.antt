pub mod FirstLines
pub mod Near
pub mod Prefix
pub mod Prints
pub mod Lent
