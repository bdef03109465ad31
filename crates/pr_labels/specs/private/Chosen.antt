-- Pairs whose names are listed, or whose names are not.
use Rattle.std.specs.Prelude.{◌≡◌, ℕ, Bool, true, false, not, List, Option, IfSome}
use Rattle.std.specs.BTreeSet.{BTreeSet}
use Rattle.std.specs.Borrow.{Bor}
use Rattle.pr_words.specs.Names.{is_among, knows}
use Rattle.pr_labels.specs.declared.pair.Pair.{Pair}
use Rattle.pr_labels.specs.Edits.{is_listed}

unfoldable pub is_chosen : Bool → List (List ℕ) → Pair → Bool
is_chosen true names p = is_listed names p
is_chosen false names p = not (is_listed names p)

-- the set, if there is one, has the names
pub record HasNames (many : Option (BTreeSet (Bor (List ℕ)))) (names : List (List ℕ)) : Type 0 where
  pub known : IfSome many (λ known. (name : List ℕ) → knows known name ≡ is_among name names)
