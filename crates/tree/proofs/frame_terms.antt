pub mod Filling
pub mod OneVectorMore
