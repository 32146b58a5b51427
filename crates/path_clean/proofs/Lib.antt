mod Vectors
pub mod Distinct
pub mod Judged
pub mod CauseLemmas
pub mod MergedLemmas
pub mod GraphPaths
