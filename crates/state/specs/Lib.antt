pub mod soundness
pub mod preparing
pub mod degrees
pub mod writing
