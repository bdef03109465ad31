pub mod Adapted
pub mod Failing
pub mod FileStops
pub mod HeldFiles
pub mod Kept
pub mod Schedule
pub mod Unpacked
pub mod Words
