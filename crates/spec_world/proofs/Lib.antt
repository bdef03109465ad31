pub mod Steps
pub mod Scraping
pub mod Renaming
pub mod Kept
pub mod Targeting
pub mod Refusals
pub mod Timely
pub use Rattle.pr_num.proofs.FormsOnly as NumFormsOnly
pub use Rattle.pr_ast.proofs.LabelsSeriesEnds
pub use Rattle.pr_ast.proofs.LabelsSeriesExamples
pub use Rattle.spec_vectors.proofs.HistoryLawful
pub use Rattle.spec_vectors.proofs.HistoryPutting
pub use Rattle.spec_rules.proofs.Putting as RulesPutting
pub use Rattle.pr_rulefile.proofs.SoundGroups as RulefileSoundGroups
