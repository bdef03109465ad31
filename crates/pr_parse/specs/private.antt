pub mod DeepReader
pub mod Examples
pub mod Front
pub mod GrammarReader
pub mod Open
pub mod Reader
pub mod Whole
