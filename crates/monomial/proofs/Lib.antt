pub mod Places
pub mod Scans
pub mod Lanes
pub mod Dividing
pub mod Forming
pub mod Raising
pub mod Bytewise
pub mod Carries
