pub mod Findings
pub mod Models
pub mod Preferences
pub mod Settled
pub mod WayBack
pub mod WishLemmas
