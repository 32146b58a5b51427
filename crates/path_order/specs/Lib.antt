pub mod Orders
pub mod Laws
pub mod Entries
pub mod TableRows
