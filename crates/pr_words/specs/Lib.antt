pub mod Bytes
pub mod Fields
pub mod Lines
pub mod Names
pub mod Decimals
pub mod Appending
pub mod Strings
pub mod StringTable
pub mod Quoted
pub mod StringAnswer
pub mod private
pub use Rattle.pr_forms.specs as pr_forms
