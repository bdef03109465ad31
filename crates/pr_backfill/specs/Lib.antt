pub mod Times
pub mod Filled
pub mod Text
pub mod Means
pub mod private
pub use Rattle.pr_text.specs as pr_text
pub use Rattle.pr_checks.specs as pr_checks
