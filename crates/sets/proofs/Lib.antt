pub mod Bits
pub mod Scan
pub mod Apart
