pub mod Replies
pub mod Told
pub mod Front
pub mod Runs
pub mod private
pub use Rattle.pr_text.specs.spec_world as spec_world
