pub mod Levels
pub mod Whole
