pub mod Faults
pub mod Deep
pub mod Derived
pub mod Parsed
pub mod QueryKinds
pub mod Seen
pub mod Grammar
pub mod GrammarTable
pub mod GrammarWhole
pub mod Expressions
pub mod private
pub use Rattle.pr_types.specs as pr_types
