pub mod Guards
pub mod Membership
pub mod Replay
