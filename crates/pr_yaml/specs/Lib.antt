pub mod Tree
pub mod Grammar
pub mod GrammarTable
pub mod Trees
pub mod Faults
pub mod Read
pub mod Bytes
pub mod Lines
pub mod Plain
pub mod Quoted
pub mod Block
pub mod Tokens
pub mod Scan
pub mod private
pub use Rattle.pr_words.specs as pr_words
