pub mod steps
pub mod over
