pub mod Growing
pub mod Texts
pub mod Completions
pub mod Resuming
pub mod Trying
