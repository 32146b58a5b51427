pub mod Reading
pub mod Encodings
pub mod FieldLemmas
pub mod Blocks
mod Vectors
