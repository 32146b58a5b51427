pub mod Acceptance
pub mod Accepted
pub mod Counting
pub mod GivenLines
pub mod MarkLaws
pub mod OneVerdict
pub mod WalkLaws
