pub mod Carried
pub mod Costs
pub mod Examples
pub mod Passed
pub mod Times
pub mod Laws
