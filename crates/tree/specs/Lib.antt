pub mod subtrees
pub mod frame_terms
