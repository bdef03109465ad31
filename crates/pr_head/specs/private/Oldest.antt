-- A time before which no held sample stands.
use Rattle.std.specs.Prelude.{◌≡◌, ℕ, ◌≤◌, List, slice_get, Some}
use Rattle.std.specs.List.{All}
use Rattle.pr_labels.specs.declared.pair.Pair.{Pair}
use Rattle.pr_head.specs.private.Stored.{Stored}

abbrev pub IsSince : ℕ → Stored → Type 0
IsSince oldest s = All (λ x. oldest ≤ x.time) s.held

abbrev pub AreSince : ℕ → List (List Pair × Stored) → Type 0
AreSince oldest head = (i : ℕ) (e : List Pair × Stored) → slice_get head i ≡ Some e → IsSince oldest e.1
