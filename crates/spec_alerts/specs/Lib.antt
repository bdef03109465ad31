pub mod Lineage
pub mod Sights
pub mod Episodes
pub mod Records
pub mod Restoring
pub mod Receivers
pub mod private
pub use Rattle.spec_history.specs as spec_history
