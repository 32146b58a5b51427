pub mod Chains
pub mod Exclusions
pub mod Peerings
