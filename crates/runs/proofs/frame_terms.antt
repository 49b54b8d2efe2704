pub mod OneVectorMore
pub mod LoopsOverFrame
