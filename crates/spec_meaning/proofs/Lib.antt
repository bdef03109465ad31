pub mod Selecting
pub mod Vectors
pub mod Called
pub mod Meanings
pub use Rattle.pr_types.proofs.CountLemmas as TypesCountLemmas
pub use Rattle.pr_types.proofs.Parts as TypesParts
pub use Rattle.pr_types.proofs.Whole as TypesWhole
