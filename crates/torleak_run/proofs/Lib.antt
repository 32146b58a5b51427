pub mod Comings
mod Lasts
mod Stops
