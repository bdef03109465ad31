pub mod Reading
pub mod Depths
pub mod Judged
pub mod Fronts
pub mod ParsedLaws
pub mod ParsedExamples
pub mod QueryKindsComputing
pub mod Table
pub mod Worth
pub mod Ways
pub mod GrammarReading
pub mod GrammarEnds
pub mod StepsLaw
pub mod PlacesLaw
pub mod TokenValues
mod Typing
