pub mod Examples
pub mod Faults
pub mod RowExamples
pub mod Laws
