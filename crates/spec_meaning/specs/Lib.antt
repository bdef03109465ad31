pub mod Answers
pub mod Operators
pub mod Selection
pub mod Operations
pub mod Given
pub mod Absence
pub mod RangeCalls
pub mod Calls
pub mod Aggregations
pub mod Subqueries
pub mod Meaning
pub mod private
pub use Rattle.pr_types.specs as pr_types
pub use Rattle.spec_vectors.specs as spec_vectors
