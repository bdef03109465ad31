-- Which older ones are named.
use Rattle.std.specs.Prelude.{◌≡◌, ◌<◌, ℕ, List, slice_get, Option, Some}

-- each one that is named is there
abbrev pub AreBelow : ℕ → List (Option ℕ) → Type 0
AreBelow size from = (i n : ℕ) → slice_get from i ≡ Some (Some n) → n < size
