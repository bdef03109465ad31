pub mod RecordOrder
pub mod DueAlerts
pub mod Names
pub mod Kept
pub mod Accounted
pub mod Offers
pub use Rattle.spec_history.proofs.Choosing as HistoryChoosing
pub use Rattle.spec_history.proofs.Lawful as HistoryLawful
pub use Rattle.spec_history.proofs.Putting as HistoryPutting
