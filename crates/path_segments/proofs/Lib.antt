pub mod Values
pub mod PathLemmas
mod Vectors
mod PathVectors
