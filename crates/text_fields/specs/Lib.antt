pub mod Fields
pub mod Joined
pub mod Padded
pub mod Reading
