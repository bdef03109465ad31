pub mod private
pub use Rattle.pr_agg.specs as pr_agg
