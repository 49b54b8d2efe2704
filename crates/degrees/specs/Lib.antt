pub mod Notions
pub mod Degrees
