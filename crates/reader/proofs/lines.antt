pub mod LineTests
pub mod HeadAnswers
