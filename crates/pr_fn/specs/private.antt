pub mod Bounds
pub mod Buckets
pub mod Dates
pub mod Faults
pub mod Gathered
pub mod Rows
pub mod Separated
pub mod ValueFunctions
