pub mod Kinds
pub mod Named
pub mod Plain
pub mod Shallow
pub mod TreeHeight
