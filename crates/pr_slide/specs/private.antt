pub mod Carried
pub mod Growing
pub mod Kinds
pub mod Later
pub mod Places
pub mod Succession
pub mod Successions
pub mod Windows
