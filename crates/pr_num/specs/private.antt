pub mod Forms
pub mod Kept
pub mod Parts
pub mod Worked
