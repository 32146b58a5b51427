-- The laws of the definitions, by what they speak of.
pub mod Checking
pub mod Components
pub mod Evidence
pub mod GivenEvidence
pub mod GivenPreference
pub mod Givens
pub mod Graph
pub mod Preference
pub mod Selection
pub mod Serving
