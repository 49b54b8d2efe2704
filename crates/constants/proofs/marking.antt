pub mod Columnwise
