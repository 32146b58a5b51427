pub mod ConeLemmas
pub mod CycleLemmas
pub mod FollowLemmas
pub mod LawLemmas
pub mod LinkLemmas
pub mod LotLemmas
pub mod NetLemmas
pub mod PlaceLemmas
pub mod Rising
pub mod SizeLemmas
pub mod TallyLemmas
mod Vectors
