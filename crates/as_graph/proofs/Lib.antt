mod Vectors
pub mod AlongLemmas
pub mod BuildLemmas
pub mod CountLemmas
pub mod Distinct
pub mod EdgeLemmas
pub mod Labelled
pub mod PartedRows
pub mod ReturnLemmas
pub mod RowLemmas
pub mod StepLemmas
