pub mod brought
pub mod page
pub mod whole
