pub mod Arcs
mod Classing
mod ComponentVectors
mod Marking
mod Orders
pub mod Refutation
