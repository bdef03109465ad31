pub mod Accounts
pub mod Calls
pub mod Examples
pub mod NoticesExamples
pub mod Laws
