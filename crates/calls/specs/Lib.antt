pub mod Coded
pub mod Made
pub mod Version
