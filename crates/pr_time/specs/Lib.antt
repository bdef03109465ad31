pub mod SpanText
pub mod SpanTable
pub mod SpanShown
pub mod SpanAnswer
pub mod private
pub use Rattle.pr_forms.specs as pr_forms
