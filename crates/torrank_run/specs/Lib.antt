pub mod Ranking
pub mod Written
