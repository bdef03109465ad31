pub mod Answers
pub mod Faults
pub mod Values
pub mod Notices
pub mod Evaluated
pub mod Printed
pub mod BadRows
pub mod FileNames
pub mod Script
pub mod Reloads
pub mod Naming
pub mod Orders
pub mod Taken
pub mod private
pub use Rattle.spec_world.specs.pr_labels as pr_labels
pub use Rattle.spec_world.specs.pr_match as pr_match
pub use Rattle.spec_world.specs.pr_parse as pr_parse
pub use Rattle.spec_world.specs.spec_history as spec_history
pub use Rattle.spec_world.specs.spec_meaning as spec_meaning
pub use Rattle.spec_world.specs.spec_rules as spec_rules
pub use Rattle.spec_world.specs.pr_rulefile as pr_rulefile
pub use Rattle.spec_world.specs as spec_world
