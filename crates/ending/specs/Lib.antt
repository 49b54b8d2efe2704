pub mod Good
pub mod Spent
pub mod Well
