pub mod Contents
pub mod Distinct
pub mod Growth
pub mod Lent
pub mod Limits
pub mod RowLists
