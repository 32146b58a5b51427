pub mod Against
pub mod File
pub mod Judging
pub mod Rules
pub mod Totals
pub mod Valid
