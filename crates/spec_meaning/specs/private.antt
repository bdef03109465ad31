pub mod Cost
pub mod Examples
pub mod RowExamples
pub mod Laws
