pub mod private
pub use Rattle.pr_head.specs.spec_history as spec_history
pub use Rattle.spec_vectors.specs as spec_vectors
pub use Rattle.pr_window.specs as pr_window
pub use Rattle.pr_head.specs as pr_head
