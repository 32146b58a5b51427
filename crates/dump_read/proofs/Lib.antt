pub mod Countings
pub mod Takings
pub mod OneRecord
pub mod Outcomes
pub mod Goings
pub mod BatchLemmas
pub mod FileLemmas
pub mod TakingLemmas
pub mod LimitLemmas
pub mod FitLemmas
pub mod SumLemmas
pub mod Reaches
pub mod Somes
mod Vectors
pub mod Openings
pub mod Merges
