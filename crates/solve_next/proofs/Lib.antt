pub mod Advised
pub mod Ways
