pub mod Lackings
pub mod OneVerdicts
