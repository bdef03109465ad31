pub mod private
pub use Rattle.spec_alerts.specs.spec_history as spec_history
pub use Rattle.spec_alerts.specs as spec_alerts
