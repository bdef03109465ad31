pub mod Answers
pub mod Asks
pub mod Carried
pub mod Formulas
pub mod Parted
pub mod Spots
