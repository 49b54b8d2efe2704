pub mod Stepping
pub mod Sorting
pub mod Reaching
