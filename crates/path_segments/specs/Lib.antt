pub mod Segments
pub mod PathOf
