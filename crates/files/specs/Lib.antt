pub mod Files
pub mod Reasons
pub mod Answers
