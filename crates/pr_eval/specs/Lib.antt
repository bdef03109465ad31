pub mod private
pub use Rattle.spec_meaning.specs.pr_types as pr_types
pub use Rattle.pr_range.specs.spec_vectors as spec_vectors
pub use Rattle.pr_range.specs.pr_head as pr_head
pub use Rattle.pr_fn.specs as pr_fn
pub use Rattle.pr_range.specs as pr_range
