pub mod Fields
pub mod Listing
