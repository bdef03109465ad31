pub mod Chosen
pub mod Entries
pub mod Held
pub mod OrderKey
pub mod Places
pub mod SeriesParts
pub mod SeriesReader
