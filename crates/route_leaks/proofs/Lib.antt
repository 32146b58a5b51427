pub mod Assembling
pub mod Behind
pub mod Explaining
pub mod Meetings
