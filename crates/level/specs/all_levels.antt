pub mod Levels
pub mod Level
