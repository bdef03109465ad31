pub mod Answers
pub mod Extremes
pub mod Folding
pub mod Gains
pub mod Neighbours
pub mod Stretches
pub mod Totals
pub mod Windows
