pub mod Rooms
pub mod Space
