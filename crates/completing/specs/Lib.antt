pub mod adding
pub mod whole
