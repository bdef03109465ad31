pub mod GroupExamples
pub mod Renaming
pub mod ScrapeExamples
pub mod Laws
