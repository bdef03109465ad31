pub mod RuleFiles
pub mod Events
pub mod Verdict
pub mod private
pub use Rattle.pr_testfile.specs.pr_rulefile as pr_rulefile
pub use Rattle.spec_world.specs as spec_world
pub use Rattle.pr_testfile.specs as pr_testfile
