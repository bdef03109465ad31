-- A name among others.
use Rattle.std.specs.Prelude.{ℕ, Bool, List}
use Rattle.std.specs.BTreeSet.{BTreeSet, contains_by}
use Rattle.std.specs.Borrow.{Bor}
use Rattle.std.specs.Cmp.Lexicographic.{slice_cmp}
use Rattle.std.specs.List.{list_any}
use Rattle.std.specs.Ordering.{nat_cmp}
use Rattle.std.specs.Str.{bytes_eq}

-- whether one of these is the name
abbrev pub is_among : List ℕ → List (List ℕ) → Bool
is_among name = list_any (λ n. bytes_eq n name)

-- whether a set of names has a name
abbrev pub knows : BTreeSet (Bor (List ℕ)) → List ℕ → Bool
knows names name = contains_by (λ n. slice_cmp nat_cmp name n.now) names
