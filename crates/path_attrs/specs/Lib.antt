pub mod Fields
pub mod Attributes
