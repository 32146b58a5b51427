pub mod Candidates
pub mod Held
pub mod Posing
pub mod Probing
pub mod Settling
pub mod Showing
pub mod Trials
