mod Stops
pub mod Comings
mod Writings
