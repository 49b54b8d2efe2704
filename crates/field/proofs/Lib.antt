pub mod Inverses
pub mod Primes
