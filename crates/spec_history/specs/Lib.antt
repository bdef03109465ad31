pub mod Admission
pub mod Lookback
pub mod Series
pub mod Puts
pub mod Points
pub mod Rows
pub mod Histories
pub mod private
pub use Rattle.pr_num.specs as pr_num
pub use Rattle.pr_time.specs as pr_time
pub use Rattle.pr_labels.specs as pr_labels
