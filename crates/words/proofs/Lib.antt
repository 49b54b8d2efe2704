pub mod Known
pub mod Numbered
