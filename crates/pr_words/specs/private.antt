pub mod Escapes
pub mod Language
pub mod Reader
