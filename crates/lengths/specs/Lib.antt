pub mod Notions
pub mod Lengths
