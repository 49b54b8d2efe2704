pub mod Weights
pub mod Carried
pub mod Lent
pub mod Bounded
pub mod Written
