pub mod ComingBacks
pub mod Settling
pub mod TotalLemmas
pub mod Validity
