pub mod Asking
pub mod Unmet
pub mod Views
pub mod Whys
