pub mod search
pub mod tables
