pub mod KnownSets
pub mod Weak
pub mod Files
pub mod Exprs
pub mod Intervals
pub mod SomeProblems
pub mod LabelSets
pub mod Parts
pub mod Even
pub mod Keeping
mod Computing
pub use Rattle.pr_rulefile.proofs.SomeProblems as RulefileSomeProblems
pub use Rattle.pr_rulefile.proofs.SoundGroups as RulefileSoundGroups
