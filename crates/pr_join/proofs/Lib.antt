pub mod Keys
pub mod Placing
pub mod Taken
pub mod Pairing
pub mod Ordered
pub mod KeyLabels
pub mod EmptySides
pub mod LeastShared
