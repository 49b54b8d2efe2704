pub mod Notions
pub mod Bidegrees
