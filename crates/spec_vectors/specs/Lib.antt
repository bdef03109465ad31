pub mod Vectors
pub mod Matching
pub mod Operators
pub mod Aggregation
pub mod Functions
pub mod LabelFunctions
pub mod Calendar
pub mod Histogram
pub mod Spots
pub mod Extrapolation
pub mod Regression
pub mod Ranges
pub mod private
pub use Rattle.pr_num.specs as pr_num
pub use Rattle.spec_history.specs.pr_labels as pr_labels
pub use Rattle.spec_history.specs as spec_history
