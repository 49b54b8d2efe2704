pub mod Reader
pub mod Soundness
pub mod Frames
pub mod Leaves
pub mod Lifts
