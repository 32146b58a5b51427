pub mod EdgeLists
pub mod EdgeNumbers
pub mod PlaceLemmas
pub mod SlotLemmas
