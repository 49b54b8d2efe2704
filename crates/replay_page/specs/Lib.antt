pub mod levels
