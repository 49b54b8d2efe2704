pub mod Stepping
pub mod Reaching
