pub mod counting
pub mod mixed
pub mod weights
