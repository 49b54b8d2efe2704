pub mod Slices
pub mod parameters
pub mod refusals
