pub mod Sought
pub mod Placing
pub mod Outcomes
pub mod InPlace
pub mod Rowwise
pub mod Walking
