pub mod AnyOrder
pub mod Laws
pub mod Searching
