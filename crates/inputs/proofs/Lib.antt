pub mod Ends
pub mod Lines
pub mod Turns
pub mod Enough
