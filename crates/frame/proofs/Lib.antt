pub mod Ascending
pub mod Minimal
pub mod Components
pub mod Thinning
