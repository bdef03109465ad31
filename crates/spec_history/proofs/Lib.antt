pub mod Choosing
pub mod Lawful
pub mod Selected
pub mod Putting
mod PointTexts
mod RowLaws
mod Answered
mod HistoryLaws
pub use Rattle.pr_labels.proofs.Elements as LabelsElements
pub use Rattle.pr_labels.proofs.LabelLaws as LabelsLabelLaws
pub use Rattle.pr_labels.proofs.LabelMaps as LabelsLabelMaps
pub use Rattle.pr_labels.proofs.LabelOrder as LabelsLabelOrder
pub use Rattle.pr_labels.proofs.Sorted as LabelsSorted
