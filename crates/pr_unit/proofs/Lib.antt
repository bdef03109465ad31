pub mod Lists
pub mod Loading
pub mod Keeping
pub mod Building
pub mod Rounds
pub mod Runs
pub mod NextTimes
pub mod Named
pub mod Filling
pub mod Answers
pub mod Alerts
pub mod Points
pub mod Going
pub mod FeedingFeeding
mod Meant
mod FiringAlerts
mod Placing
