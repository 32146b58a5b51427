pub mod Keepings
pub mod Origins
pub mod Outcomes
pub mod Settlings
