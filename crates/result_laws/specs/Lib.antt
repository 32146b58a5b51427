pub mod Asked
pub mod Existing
pub mod Growing
pub mod Orders
pub mod Possible
