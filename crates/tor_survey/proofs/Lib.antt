pub mod Additions
pub mod Appearing
pub mod Countings
pub mod Ends
