pub mod Places
pub mod Decimals
pub mod Fronts
pub mod PlainTexts
pub mod StringTable
pub mod StringEnds
pub mod StringReading
pub mod StringPublic
pub mod StringUtf8
pub mod Escaped
pub mod Written
pub mod WrittenUtf8
pub mod StringOpen
pub mod StringAnswers
pub mod WorkedStrings
pub mod Characters
pub mod EscapeDigits
pub use Rattle.pr_forms.proofs.ByRules as FormsByRules
pub use Rattle.pr_forms.proofs.Carrying as FormsCarrying
pub use Rattle.pr_forms.proofs.Choosing as FormsChoosing
pub use Rattle.pr_forms.proofs.Decided as FormsDecided
pub use Rattle.pr_forms.proofs.Ending as FormsEnding
pub use Rattle.pr_forms.proofs.Places as FormsPlaces
pub use Rattle.pr_forms.proofs.Public as FormsPublic
pub use Rattle.pr_forms.proofs.Readings as FormsReadings
pub use Rattle.pr_forms.proofs.Sound as FormsSound
pub use Rattle.pr_forms.proofs.Steps as FormsSteps
pub use Rattle.pr_forms.proofs.Suffixes as FormsSuffixes
pub use Rattle.pr_forms.proofs.Taking as FormsTaking
pub use Rattle.pr_forms.proofs.Ways as FormsWays
pub use Rattle.pr_forms.proofs.Within as FormsWithin
