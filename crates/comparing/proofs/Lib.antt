pub mod Exactly
pub mod Exponents
pub mod Sound
pub mod Comparing
