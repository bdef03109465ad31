-- What is named comes first.
use Rattle.std.specs.Prelude.{ℕ, not, Bool, List, [], ◌∷◌, ◌++◌, filter}
use Rattle.std.specs.Str.{bytes_eq}

-- What has a name that is among these comes first, in their order; the others follow.
abbrev pub is_so_named : {X : Type 0} → (X → List ℕ) → List ℕ → X → Bool
is_so_named named name x = bytes_eq (named x) name

abbrev pub named_first : {X : Type 0} → (X → List ℕ) → List (List ℕ) → List X → List X
named_first named [] xs = xs
named_first named (name ∷ names) xs =
    filter (is_so_named named name) xs ++ named_first named names (filter (λ x. not (is_so_named named name x)) xs)
