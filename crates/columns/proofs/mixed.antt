pub mod Mixing
pub mod Unless
pub mod Alike
