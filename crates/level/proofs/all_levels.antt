pub mod Basis
pub mod Lifting
pub mod Levels
