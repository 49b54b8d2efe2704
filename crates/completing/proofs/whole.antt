pub mod Attempts
pub mod Tries
