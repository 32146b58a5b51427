-- The laws of the definitions, by what they speak of.
pub mod Telling
