pub mod LevelWords
pub mod OneTermMore
pub mod LineByLine
pub mod HeadLines
pub mod WordsSoFar
pub mod Carrying
pub mod HeadWeights
pub mod Answering
