pub mod Bound
pub mod FewGivens
pub mod MoreGivens
pub mod TopResults
