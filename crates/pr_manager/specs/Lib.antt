pub mod private
pub use Rattle.spec_world.specs.pr_types as pr_types
pub use Rattle.spec_world.specs.pr_parse as pr_parse
pub use Rattle.spec_world.specs.pr_expo as pr_expo
pub use Rattle.spec_world.specs.spec_meaning as spec_meaning
pub use Rattle.spec_world.specs.spec_rules as spec_rules
pub use Rattle.spec_world.specs as spec_world
pub use Rattle.pr_group.specs.pr_head as pr_head
pub use Rattle.pr_group.specs.pr_range as pr_range
pub use Rattle.pr_group.specs.pr_eval as pr_eval
pub use Rattle.pr_group.specs.pr_rule as pr_rule
pub use Rattle.pr_group.specs as pr_group
