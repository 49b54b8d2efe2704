pub mod terms
pub mod sums
