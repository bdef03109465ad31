pub mod Alone
pub mod Chosen
pub mod Counts
pub mod Finished
pub mod Firsts
pub mod Lists
pub mod Parts
pub mod Presence
