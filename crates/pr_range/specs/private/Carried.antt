-- What ranges that go on from others take over.
use Rattle.std.specs.Prelude.{◌≡◌, ℕ, List, slice_get, Option, Some, None, option_and_then}
use Rattle.std.specs.Option.{option_map_or}
use Rattle.pr_range.specs.private.Asks.{LastAsks, Passed}

-- the older range selector that one goes on from, if it is there and goes on from any
abbrev pub named_in : Option (Option ℕ) → Option ℕ
named_in None = None
named_in (Some choice) = choice

abbrev pub older_of : List (Option ℕ) → ℕ → Option ℕ
older_of from node = named_in (slice_get from node)

-- no older one is named twice
abbrev pub IsOnce : List (Option ℕ) → Type 0
IsOnce from = (i j n : ℕ) → slice_get from i ≡ Some (Some n) → slice_get from j ≡ Some (Some n) → i ≡ j

-- nothing was asked, and nothing was passed
pub record IsFresh (last : LastAsks) (passed : Passed) : Type 0 where
  pub asks : (k s : ℕ) → last k s ≡ None
  pub passing : (k s : ℕ) → passed k s ≡ 0

-- The last asks and what was passed are those of the older range selector; where there is none,
-- nothing was asked.
pub record IsCarried (from : List (Option ℕ)) (last last' : LastAsks) (passed passed' : Passed) : Type 0 where
  pub asks : (k s : ℕ) → last' k s ≡ option_and_then (λ j. last j s) (older_of from k)
  pub passing : (k s : ℕ) → passed' k s ≡ option_map_or (λ j. passed j s) (older_of from k) 0
