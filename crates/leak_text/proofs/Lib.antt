pub mod LineLemmas
mod Vectors
