pub mod Commands
pub mod Plans
pub mod Following
pub mod Promising
pub mod EngineEnds
pub mod WordTimes
pub use Rattle.pr_run.proofs.ExpressionExamples as RunExpressionExamples
