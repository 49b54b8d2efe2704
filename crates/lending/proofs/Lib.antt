pub mod Called
pub mod Front
