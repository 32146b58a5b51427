pub mod Batching
pub mod Condensations
pub mod CycleLemmas
pub mod LaneLemmas
pub mod MaskLemmas
pub mod Picking
pub mod Reaching
pub mod Uniqueness
