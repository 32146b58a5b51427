pub mod Upward
pub mod Turning
pub mod Octets
mod Vectors
