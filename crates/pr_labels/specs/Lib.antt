pub mod Names
pub mod LabelSet
pub mod Edits
pub mod Order
pub mod Rising
pub mod SeriesText
pub mod SeriesGrammar
pub mod SeriesTable
pub mod SeriesReading
pub mod private
pub use Rattle.pr_words.specs.pr_forms as pr_forms
pub use Rattle.pr_words.specs as pr_words
