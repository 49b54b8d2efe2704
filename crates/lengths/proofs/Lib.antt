pub mod Colons
pub mod Frames
pub mod Rising
pub mod Built
pub mod Lengths
pub mod Cases
