pub mod Expansion
pub mod Pieces
pub mod TemplateText
pub mod TemplateTable
pub mod TemplateReading
pub mod Decimals
pub mod Humanized
pub mod private
