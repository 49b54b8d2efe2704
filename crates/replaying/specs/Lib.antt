pub mod picks
pub mod log
pub mod over
