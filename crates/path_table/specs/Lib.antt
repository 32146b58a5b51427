pub mod Rows
pub mod Inside
pub mod Table
pub mod Chains
pub mod RowKeys
pub mod Repeats
pub mod Lookups
