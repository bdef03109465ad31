pub mod Words
pub mod Fields
pub mod Scalars
pub mod Labels
pub mod Samples
pub mod Alerts
pub mod Checks
pub mod Series
pub mod Tests
pub mod File
pub mod Reading
pub mod Numbers
pub mod Steps
pub mod Items
pub mod Points
pub mod Values
pub mod private
pub use Rattle.pr_words.specs as pr_words
pub use Rattle.pr_rulefile.specs as pr_rulefile
