pub mod private
pub use Rattle.spec_rules.specs.pr_match as pr_match
pub use Rattle.pr_eval.specs.pr_types as pr_types
pub use Rattle.spec_rules.specs.pr_tmpl as pr_tmpl
pub use Rattle.spec_rules.specs.spec_history as spec_history
pub use Rattle.pr_eval.specs.spec_vectors as spec_vectors
pub use Rattle.spec_rules.specs.spec_meaning as spec_meaning
pub use Rattle.spec_rules.specs.spec_alerts as spec_alerts
pub use Rattle.spec_rules.specs as spec_rules
pub use Rattle.pr_eval.specs.pr_head as pr_head
pub use Rattle.pr_eval.specs.pr_range as pr_range
pub use Rattle.pr_eval.specs as pr_eval
