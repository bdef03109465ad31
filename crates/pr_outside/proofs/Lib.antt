pub mod StatusStreams
pub mod Ended
pub mod Telling
pub mod Causes
pub mod WordTexts
pub mod Opening
pub mod Endings
pub mod Walks
pub mod EachFile
pub mod Commands
pub mod StoredRows
pub mod Packing
pub mod SeriesNumbers
pub use Rattle.pr_words.proofs.PlainTexts as WordsPlainTexts
