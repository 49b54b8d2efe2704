pub mod Completes
pub mod Resuming
