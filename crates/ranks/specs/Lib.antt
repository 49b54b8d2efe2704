pub mod Notions
pub mod Elimination
pub mod Blocks
pub mod Ranks
