pub mod Settings
pub mod Results
pub mod Groups
pub mod Evaluations
pub mod Taking
pub mod Reloads
pub mod Replays
pub mod Definitions
pub mod private
pub use Rattle.pr_match.specs as pr_match
pub use Rattle.pr_tmpl.specs as pr_tmpl
pub use Rattle.spec_alerts.specs.spec_history as spec_history
pub use Rattle.spec_meaning.specs as spec_meaning
pub use Rattle.spec_alerts.specs as spec_alerts
