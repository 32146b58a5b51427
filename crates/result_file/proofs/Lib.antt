mod FewLines
pub mod OneRuling
mod Takings
mod Vectors
