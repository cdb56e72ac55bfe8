pub mod Passing
pub mod Changes
pub mod Lent
pub mod Decoding
pub mod Unkept
