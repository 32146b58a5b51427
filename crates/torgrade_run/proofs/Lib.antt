mod Stops
pub mod Comings
pub mod GradeLines
mod Vectors
