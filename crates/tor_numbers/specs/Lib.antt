pub mod EdgeNumbers
pub mod Edges
pub mod Places
pub mod Slots
