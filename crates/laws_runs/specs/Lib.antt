pub mod private
