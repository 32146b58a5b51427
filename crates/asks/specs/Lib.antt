pub mod Arriving
pub mod AskLaws
pub mod Asks
pub mod AsksText
pub mod Behind
pub mod Narrowing
