pub mod Terms
pub mod OverState
