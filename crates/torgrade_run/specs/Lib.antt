pub mod GradeText
pub mod Grading
