pub mod OverGround
