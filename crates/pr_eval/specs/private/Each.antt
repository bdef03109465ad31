-- What holds of each element of a list and of its number, counted from a number on.
use Rattle.std.specs.Prelude.{◌≡◌, ℕ, ◌+◌, List, slice_get, Some}

abbrev pub EachAt : {A : Type 0} → (ℕ → A → Type 0) → ℕ → List A → Type 0
EachAt {A} P from xs = (i : ℕ) (x : A) → slice_get xs i ≡ Some x → P (from + i) x
