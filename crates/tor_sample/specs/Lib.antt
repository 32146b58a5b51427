pub mod Draws
pub mod Networks
pub mod Levels
pub mod Paths
pub mod Records
