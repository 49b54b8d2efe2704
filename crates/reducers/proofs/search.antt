pub mod Firsts
pub mod Answers
