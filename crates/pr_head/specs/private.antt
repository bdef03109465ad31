pub mod Holds
pub mod Index
pub mod Intake
pub mod Listings
pub mod Oldest
pub mod Packed
pub mod Reads
pub mod Stored
