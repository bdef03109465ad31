pub mod Queues
pub mod Standing
