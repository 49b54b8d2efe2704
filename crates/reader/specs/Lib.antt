pub mod fields
pub mod lines
pub mod problem
