pub mod reduction
pub mod run
pub mod frame_terms
