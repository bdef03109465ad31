-- Times and moments, beside that of the last event.
use Rattle.std.specs.Prelude.{ℕ, ℤ, pos, ◌-ℤ◌, ◌≤ℤ◌, Option, Some, None}
use Rattle.pr_manager.specs.pr_types.Typed.{kept}

-- the moment up to which samples may be forgotten at a time: they are kept for 45 days
abbrev pub forgotten_at : ℕ → ℤ
forgotten_at time = pos time -ℤ pos kept

-- above this moment nothing is forgotten
abbrev pub IsKeptAbove : Option ℕ → ℤ → Type 0
IsKeptAbove None x = Unit {0}
IsKeptAbove (Some last) x = forgotten_at last ≤ℤ x
