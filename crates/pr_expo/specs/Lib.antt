pub mod Text
pub mod Families
pub mod Lint
pub mod Characters
pub mod Number
pub mod Line
pub mod Words
pub mod private
