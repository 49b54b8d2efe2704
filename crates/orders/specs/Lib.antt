pub mod Images
pub mod Levels
