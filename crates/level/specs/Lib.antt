pub mod by_runs
pub mod storing
pub mod all_levels
