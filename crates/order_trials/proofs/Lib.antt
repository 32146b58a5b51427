pub mod Choosing
pub mod Helds
pub mod Ordering
pub mod Reaching
pub mod Settlings
pub mod Showings
pub mod Trying
