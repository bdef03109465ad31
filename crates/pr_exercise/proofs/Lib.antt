pub mod Lines
pub mod Tallies
pub mod Turns
pub mod Progress
pub mod Meaning
pub mod Ended
pub mod Telling
pub mod Opening
pub mod Over
mod Computing
