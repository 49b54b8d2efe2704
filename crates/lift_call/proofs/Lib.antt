pub mod LiftCall
pub mod Coding
