pub mod Vectors
pub mod Inserting
pub mod CountedLemmas
pub mod Runs
