pub mod Neighbours
pub mod Between
pub mod Timeline
pub mod Lawful
pub mod Reading
pub mod Specials
pub mod Sums
pub mod Spreads
pub mod Slopes
pub mod Rising
pub mod Finishing
pub use Rattle.pr_head.proofs.HistoryChoosing
pub use Rattle.spec_vectors.proofs.Vectors as VectorsVectors
pub use Rattle.pr_window.proofs.Over as WindowOver
pub use Rattle.pr_window.proofs.Summaries as WindowSummaries
pub use Rattle.pr_head.proofs.Arrivals as HeadArrivals
pub use Rattle.pr_head.proofs.IntakeIntake as HeadIntakeIntake
pub use Rattle.pr_head.proofs.Newest as HeadNewest
pub use Rattle.pr_head.proofs.Simulation as HeadSimulation
