pub mod Args
pub mod NameLaws
pub mod Forgotten
pub mod NumberTable
pub mod NumberReading
pub mod NameTexts
pub mod Firsts
pub mod Unique
pub mod Rests
pub mod TokensLoop
pub mod TextStarts
pub mod Ordered
pub mod NumberEnds
pub mod Total
pub mod LongestSigns
pub mod FaultPlaces
pub mod Untaken
pub mod SpaceEnds
pub mod SpacedParts
pub mod SpacedTokens
pub mod NumberForms
pub mod NumberKnown
pub mod UnitLetters
pub mod Spelling
pub mod SpelledTexts
pub mod SpelledNumbers
pub mod SpelledSpans
pub mod TakenSigns
pub mod OpenStrings
pub mod LexedLaws
mod WorkedTexts
pub use Rattle.pr_time.proofs.FormsDecided
pub use Rattle.pr_time.proofs.FormsReadings
pub use Rattle.pr_labels.proofs.WordsStringTable
pub use Rattle.pr_labels.proofs.WordsWritten
pub use Rattle.pr_time.proofs.SpanRead as TimeSpanRead
pub use Rattle.pr_time.proofs.SpanTable as TimeSpanTable
pub use Rattle.pr_time.proofs.SpanTotal as TimeSpanTotal
pub use Rattle.pr_labels.proofs.Ascii as LabelsAscii
pub use Rattle.pr_labels.proofs.LabelLaws as LabelsLabelLaws
pub use Rattle.pr_labels.proofs.LabelOrder as LabelsLabelOrder
pub use Rattle.pr_labels.proofs.Permuted as LabelsPermuted
pub use Rattle.pr_labels.proofs.SeriesEnds as LabelsSeriesEnds
pub use Rattle.pr_labels.proofs.SeriesExamples as LabelsSeriesExamples
pub use Rattle.pr_labels.proofs.SetValues as LabelsSetValues
