pub mod private
pub use Rattle.spec_tests.specs as spec_tests
