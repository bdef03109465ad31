pub mod private
pub use Rattle.pr_time.specs as pr_time
pub use Rattle.pr_head.specs as pr_head
pub use Rattle.pr_head.specs.spec_history as spec_history
pub use Rattle.pr_manager.specs as pr_manager
pub use Rattle.pr_manager.specs.pr_range as pr_range
pub use Rattle.pr_manager.specs.pr_rule as pr_rule
pub use Rattle.pr_manager.specs.pr_group as pr_group
