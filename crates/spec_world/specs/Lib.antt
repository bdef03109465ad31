pub mod Scrapes
pub mod Targets
pub mod World
pub mod Settings
pub mod Outcome
pub mod Rounds
pub mod Query
pub mod Step
pub mod Loading
pub mod private
pub use Rattle.pr_num.specs as pr_num
pub use Rattle.pr_ast.specs.pr_labels as pr_labels
pub use Rattle.pr_match.specs as pr_match
pub use Rattle.pr_types.specs as pr_types
pub use Rattle.pr_rulefile.specs.pr_parse as pr_parse
pub use Rattle.spec_rules.specs.pr_tmpl as pr_tmpl
pub use Rattle.pr_expo.specs as pr_expo
pub use Rattle.spec_vectors.specs.spec_history as spec_history
pub use Rattle.spec_rules.specs.spec_meaning as spec_meaning
pub use Rattle.spec_rules.specs.spec_alerts as spec_alerts
pub use Rattle.spec_rules.specs as spec_rules
pub use Rattle.pr_rulefile.specs as pr_rulefile
