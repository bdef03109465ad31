pub mod Computing
pub mod Equalities
pub mod Reading
pub mod Selected
pub use Rattle.pr_labels.proofs.Elements as LabelsElements
pub use Rattle.pr_labels.proofs.LabelMaps as LabelsLabelMaps
pub use Rattle.pr_labels.proofs.LabelOrder as LabelsLabelOrder
pub use Rattle.pr_labels.proofs.Sorted as LabelsSorted
