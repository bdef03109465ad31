pub mod Compiled
pub mod Conditions
