pub mod Faults
pub mod Keys
pub mod Operators
pub mod Places
pub mod Rows
pub mod Sets
