pub mod Entering
pub mod Vectorwise
