pub mod Ascii
pub mod Distinct
pub mod LabelLaws
pub mod LabelOrder
pub mod LabelSets
pub mod Listing
pub mod Making
pub mod Permuted
pub mod Putting
pub mod SetValues
pub mod Sorted
pub mod GoesOn
pub mod KnownNames
pub mod LabelMaps
pub mod Merged
pub mod Places
pub mod OrderKeys
pub mod SeriesTable
pub mod SeriesEnds
pub mod SeriesReading
pub mod SeriesNames
pub mod SeriesKnownNames
pub mod SeriesExamples
pub mod SeriesWritten
pub mod PartsRead
pub mod ByParts
pub mod PartsKnown
pub mod Behind
pub mod Elements
pub use Rattle.pr_words.proofs.FormsCarrying
pub use Rattle.pr_words.proofs.FormsDecided
pub use Rattle.pr_words.proofs.FormsEnding
pub use Rattle.pr_words.proofs.FormsPlaces
pub use Rattle.pr_words.proofs.FormsSound
pub use Rattle.pr_words.proofs.FormsSteps
pub use Rattle.pr_words.proofs.FormsSuffixes
pub use Rattle.pr_words.proofs.Decimals as WordsDecimals
pub use Rattle.pr_words.proofs.StringAnswers as WordsStringAnswers
pub use Rattle.pr_words.proofs.StringEnds as WordsStringEnds
pub use Rattle.pr_words.proofs.StringOpen as WordsStringOpen
pub use Rattle.pr_words.proofs.StringPublic as WordsStringPublic
pub use Rattle.pr_words.proofs.StringTable as WordsStringTable
pub use Rattle.pr_words.proofs.StringUtf8 as WordsStringUtf8
pub use Rattle.pr_words.proofs.Written as WordsWritten
