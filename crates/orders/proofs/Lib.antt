pub mod Comparing
pub mod Tables
pub mod Ranks
pub mod Induced
pub mod CodeParts
pub mod PackedOrder
pub mod RowImages
pub mod Answers
