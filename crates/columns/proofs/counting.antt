pub mod Standing
pub mod Counts
pub mod Ranges
pub mod Lines
