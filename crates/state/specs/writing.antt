pub mod LevelSoFar
pub mod Zeroed
pub mod AppendLoop
