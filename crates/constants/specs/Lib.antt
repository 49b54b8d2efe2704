pub mod elimination
pub mod filling
pub mod marking
