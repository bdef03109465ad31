pub mod Names
pub mod Running
pub mod Successes
pub mod Taking
pub mod Worked
