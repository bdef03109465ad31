pub mod Places
pub mod Names
pub mod Each
pub mod Evaluated
pub mod Passing
pub mod Loaded
pub mod Apart
pub mod Parts
pub mod Continued
pub mod Remaining
pub mod Replaced
pub mod Reloaded
pub mod Listed
pub mod TemplatesOfFiles
pub use Rattle.spec_world.proofs.Refusals as WorldRefusals
pub use Rattle.spec_world.proofs.Scraping as WorldScraping
pub use Rattle.spec_world.proofs.Steps as WorldSteps
pub use Rattle.spec_world.proofs.Targeting as WorldTargeting
