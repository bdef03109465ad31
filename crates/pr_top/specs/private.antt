pub mod EngineStops
pub mod Running
