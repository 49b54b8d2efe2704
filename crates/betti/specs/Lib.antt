pub mod Notions
pub mod Betti
