pub mod Mends
pub mod Refusals
pub mod Searches
pub mod Ways
