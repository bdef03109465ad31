pub mod private
pub use Rattle.pr_match.specs as pr_match
