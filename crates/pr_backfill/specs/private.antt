pub mod BackfillCommandTimes
pub mod Endings
pub mod Examples
pub mod Keeping
pub mod Opening
pub mod Rounds
pub mod Standing
