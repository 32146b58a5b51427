pub mod Ends
pub mod Limits
pub mod Preferences
pub mod Supports
