pub mod GroundOfLevel
pub mod OverGround
pub mod Joining
