pub mod Notions
pub mod Frames
pub mod Picks
pub mod Exact
pub mod Demands
pub mod Idle
