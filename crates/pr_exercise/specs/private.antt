pub mod Standing
pub mod Tallies
pub mod Turns
