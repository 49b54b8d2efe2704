pub mod Words
pub mod Pivots
pub mod Multiples
pub mod Rowwise
pub mod Turns
