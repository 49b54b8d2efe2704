pub mod Logs
pub mod Codes
pub mod Replays
pub mod Cut
pub mod Enough
