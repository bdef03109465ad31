pub mod Beginning
pub mod Files
pub mod Keeping
pub mod Standing
