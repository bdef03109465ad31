pub mod SpanTable
pub mod SpanUnits
pub mod SpanReading
pub mod SpanPublic
pub mod SpanPrint
pub mod SpanRead
pub mod SpanParts
pub mod SpanKnown
pub mod SpanTotal
pub mod WorkedSpans
pub mod NoSpan
pub use Rattle.pr_forms.proofs.Carrying as FormsCarrying
pub use Rattle.pr_forms.proofs.Decided as FormsDecided
pub use Rattle.pr_forms.proofs.Ending as FormsEnding
pub use Rattle.pr_forms.proofs.Parts as FormsParts
pub use Rattle.pr_forms.proofs.Places as FormsPlaces
pub use Rattle.pr_forms.proofs.Public as FormsPublic
pub use Rattle.pr_forms.proofs.Readings as FormsReadings
pub use Rattle.pr_forms.proofs.Sound as FormsSound
pub use Rattle.pr_forms.proofs.Suffixes as FormsSuffixes
pub use Rattle.pr_forms.proofs.Taking as FormsTaking
pub use Rattle.pr_forms.proofs.Ways as FormsWays
