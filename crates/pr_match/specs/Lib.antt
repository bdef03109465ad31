pub mod Pattern
pub mod Matcher
pub mod private
pub use Rattle.pr_labels.specs as pr_labels
