pub mod Rounds
pub mod Sooner
pub mod Worked
