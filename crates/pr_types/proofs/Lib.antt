pub mod Contents
pub mod Arguments
pub mod Parts
pub mod Whole
pub mod CountLemmas
