mod Bindings
pub mod EdgeFacts
pub mod Members
mod SortedTop
pub mod Tops
mod Vectors
