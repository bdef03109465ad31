pub mod Signatures
pub mod Selectors
pub mod Operations
pub mod Typed
pub mod private
