pub mod Faults
pub mod Letters
pub mod Parsed
pub mod Pipes
pub mod Quotes
pub mod Reader
