pub mod Longer
pub mod Elements
