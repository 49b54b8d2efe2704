pub mod Filling
pub mod Marking
