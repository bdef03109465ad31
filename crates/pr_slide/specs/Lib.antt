pub mod private
pub use Rattle.pr_head.specs.spec_history as spec_history
pub use Rattle.pr_head.specs as pr_head
pub use Rattle.pr_range.specs as pr_range
