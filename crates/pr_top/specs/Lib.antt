pub mod Usage
pub mod Command
pub mod Words
pub mod Plan
pub mod Follows
pub mod Process
pub mod Means
pub mod private
pub use Rattle.pr_backfill.specs.pr_text as pr_text
pub use Rattle.pr_run.specs.spec_world as spec_world
pub use Rattle.pr_engine.specs as pr_engine
pub use Rattle.pr_run.specs as pr_run
pub use Rattle.pr_test.specs as pr_test
pub use Rattle.pr_exercise.specs as pr_exercise
pub use Rattle.pr_backfill.specs as pr_backfill
