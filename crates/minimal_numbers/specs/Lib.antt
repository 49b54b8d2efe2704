pub mod Notions
pub mod Minimal
