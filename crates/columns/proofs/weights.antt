pub mod Keying
pub mod Summing
pub mod Raising
