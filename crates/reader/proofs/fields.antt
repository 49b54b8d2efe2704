pub mod Digits
pub mod Lines
pub mod Positions
pub mod Collected
