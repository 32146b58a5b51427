mod Summaries
pub mod AcceptingLemmas
pub mod Comings
pub mod Conclusions
pub mod Gains
pub mod GradingLemmas
pub mod JoinedRows
pub mod Joining
pub mod Known
mod KnownVectors
pub mod Knowings
pub mod Openings
pub mod Orderings
pub mod ReadableLemmas
pub mod Resumings
pub mod Sampled
pub mod SeenLemmas
pub mod SomeOrders
pub mod TableLines
pub mod TableRows
pub mod Unwritings
pub mod WiderLimit
