pub mod Folders
pub mod Apart
pub mod Asked
mod Sound
mod Computing
mod Successes
