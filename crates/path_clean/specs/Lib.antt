pub mod Paths
pub mod Clean
pub mod Behind
pub mod Counts
