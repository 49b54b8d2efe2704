pub mod Cuts
pub mod Ranking
