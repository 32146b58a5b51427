mod Vectors
pub mod GroupLemmas
