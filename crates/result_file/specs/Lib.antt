pub mod FileText
pub mod Limits
pub mod Ruled
pub mod VerdictText
