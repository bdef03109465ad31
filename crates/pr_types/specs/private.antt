pub mod Answered
pub mod Built
pub mod Checking
pub mod Examples
pub mod Numbers
pub mod Parts
