pub mod Until
pub mod Terms
pub mod Runs
pub mod Levels
pub mod Calls
pub mod Lists
pub mod Space
