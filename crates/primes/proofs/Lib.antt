pub mod Test
pub mod Runs
pub mod Trees
pub mod Reading
pub mod States
pub mod Kept
pub mod Instances
