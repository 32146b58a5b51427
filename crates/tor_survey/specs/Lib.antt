pub mod Figures
pub mod Sets
pub mod SurveyText
pub mod Surveys
