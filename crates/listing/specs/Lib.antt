pub mod printing
pub mod reading
pub mod whole
