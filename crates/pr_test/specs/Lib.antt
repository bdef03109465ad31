pub mod FailureText
pub mod TestsTold
pub mod private
pub use Rattle.pr_words.specs.pr_forms as pr_forms
