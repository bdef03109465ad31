pub mod Times
pub mod Queries
pub mod Values
pub mod Steps
pub mod Passing
pub mod Answering
pub mod Free
pub mod Names
pub mod ByName
pub mod Making
pub mod Tracking
pub mod Tallying
pub mod ScrapeAnswering
pub mod Bodies
pub mod KnownTargets
mod Stepping
pub mod Told
pub mod Loaded
pub mod PrintedTexts
pub mod Paths
pub mod StoreTelling
pub use Rattle.pr_time.proofs.SpanTotal as TimeSpanTotal
pub use Rattle.pr_manager.proofs.Each as ManagerEach
pub use Rattle.pr_manager.proofs.Evaluated as ManagerEvaluated
pub use Rattle.pr_manager.proofs.Loaded as ManagerLoaded
pub use Rattle.pr_manager.proofs.Names as ManagerNames
pub use Rattle.pr_manager.proofs.Places as ManagerPlaces
