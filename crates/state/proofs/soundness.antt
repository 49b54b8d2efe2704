pub mod Pointwise
pub mod RowTests
pub mod VectorByVector
pub mod TablesGrow
pub mod LevelByLevel
pub mod VectorTests
pub mod StateTests
pub mod SoundLevels
