pub mod Notions
pub mod Table
pub mod Standard
pub mod Hilbert
