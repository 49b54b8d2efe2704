pub mod numbers
pub mod page
pub mod whole
