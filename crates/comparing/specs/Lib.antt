pub mod Above
pub mod Comparing
