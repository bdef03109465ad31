pub mod Feeding
pub mod Kept
pub mod Loaded
pub mod Ordered
pub mod Run
pub mod Slots
pub mod Times
