pub mod Sound
pub mod Rules
