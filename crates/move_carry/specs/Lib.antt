pub mod Opens
pub mod Carries
pub mod Frames
