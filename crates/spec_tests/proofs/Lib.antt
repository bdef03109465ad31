mod Computing
pub mod Merging
pub mod Adding
pub mod Named
pub mod Evaluating
pub mod Coming
pub mod Beginning
pub use Rattle.pr_testfile.proofs.RulefileSomeProblems
pub use Rattle.pr_testfile.proofs.RulefileSoundGroups
