mod Vectors
pub mod OrderLemmas
pub mod PrefLemmas
pub mod SupportLemmas
pub mod TopLemmas
pub mod VoteLemmas
