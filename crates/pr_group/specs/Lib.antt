pub mod private
pub use Rattle.pr_rule.specs.spec_meaning as spec_meaning
pub use Rattle.pr_rule.specs.spec_alerts as spec_alerts
pub use Rattle.pr_rule.specs.spec_rules as spec_rules
pub use Rattle.pr_rule.specs.pr_head as pr_head
pub use Rattle.pr_rule.specs.pr_range as pr_range
pub use Rattle.pr_rule.specs.pr_eval as pr_eval
pub use Rattle.pr_rule.specs as pr_rule
