pub mod LeavesCalls
pub mod LevelCall
