pub mod EdgeSteps
pub mod Inside
pub mod Limits
pub mod Paths
pub mod StepPlaces
pub mod Steps
