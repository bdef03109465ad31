pub mod Keeping
pub mod Known
pub mod LineReading
pub mod Plain
pub mod Reading
pub mod Started
