pub mod Means
pub mod Exercise
pub mod Summary
pub mod private
