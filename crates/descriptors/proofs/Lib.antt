pub mod Taking
pub mod Printing
pub mod PrintedPieces
pub mod Staying
