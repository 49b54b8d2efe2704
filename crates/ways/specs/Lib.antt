pub mod by_tree
pub mod any_way
