pub mod Vectors
pub mod Aggregation
mod FunctionComputing
pub mod FunctionAnswers
pub mod ValueOrder
pub mod Placed
pub use Rattle.pr_num.proofs.Algebra as NumAlgebra
pub use Rattle.pr_num.proofs.Signs as NumSigns
pub use Rattle.spec_history.proofs.LabelsElements
pub use Rattle.spec_history.proofs.LabelsLabelMaps
pub use Rattle.spec_history.proofs.LabelsLabelOrder
pub use Rattle.spec_history.proofs.LabelsSorted
pub use Rattle.spec_history.proofs.Choosing as HistoryChoosing
pub use Rattle.spec_history.proofs.Lawful as HistoryLawful
pub use Rattle.spec_history.proofs.Putting as HistoryPutting
