pub mod Laws
pub mod Places
pub mod After
pub mod Behind
