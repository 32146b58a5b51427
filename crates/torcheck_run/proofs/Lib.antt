pub mod Comings
mod Judgements
mod Stops
