-- What is known of the times that are left. Private contracts cite this: a reader can pass it over.
use Rattle.std.specs.Prelude.{ℕ, ◌+◌, ◌*◌, ◌^◌, ◌<◌, List}
use Rattle.std.specs.List.{AllByRecursion}

-- so many from a next one on, a step apart: the last of them is a time
abbrev pub AreTimes : ℕ → ℕ → ℕ → Type 0
AreTimes next step left = (0 < step) × (next + left * step < 2 ^ 42 + step)

-- each is after a time
abbrev pub AreAfter : ℕ → List ℕ → Type 0
AreAfter time times = AllByRecursion (λ later. time < later) times
