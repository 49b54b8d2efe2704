pub mod Lifts
pub mod Codes
