pub mod Listed
pub mod Paged
