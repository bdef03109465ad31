pub mod private
pub use Rattle.pr_labels.specs as pr_labels
pub use Rattle.spec_history.specs as spec_history
