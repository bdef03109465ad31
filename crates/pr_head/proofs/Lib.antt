pub mod Arrivals
pub mod Newest
pub mod Places
pub mod Selecting
pub mod Simulation
pub mod Trimming
pub mod Indexing
pub mod Oldest
pub mod Gone
pub mod IntakeIntake
pub mod Markers
pub mod Sets
mod Unchanged
pub use Rattle.spec_history.proofs.Choosing as HistoryChoosing
pub use Rattle.spec_history.proofs.Lawful as HistoryLawful
pub use Rattle.spec_history.proofs.Putting as HistoryPutting
