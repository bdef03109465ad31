pub mod Writing
pub mod Marking
pub mod Offering
pub mod Stepping
pub mod Reckoning
pub mod Templated
pub mod RowLemmas
pub mod Ruling
pub mod Making
pub mod InOrder
pub mod Remembering
pub mod SettingAtOnce
mod AlertsShared
mod Courses
mod FoundAlerts
mod Limits
mod Lookups
mod MergeSteps
mod Merged
mod MissingAlerts
mod Moves
mod Moving
mod Sampled
mod Sendings
mod Sent
mod Whole
pub use Rattle.pr_eval.proofs.TypesParts
pub use Rattle.spec_rules.proofs.HistoryChoosing
pub use Rattle.spec_rules.proofs.HistoryLawful
pub use Rattle.spec_rules.proofs.HistoryPutting
pub use Rattle.spec_rules.proofs.Keeping as RulesKeeping
pub use Rattle.spec_rules.proofs.Takes as RulesTakes
pub use Rattle.pr_eval.proofs.HeadArrivals
pub use Rattle.pr_eval.proofs.HeadIntakeIntake
pub use Rattle.pr_eval.proofs.HeadNewest
pub use Rattle.pr_eval.proofs.HeadSimulation
