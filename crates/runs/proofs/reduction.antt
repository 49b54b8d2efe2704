pub mod Adding
pub mod Picking
pub mod Families
pub mod Found
