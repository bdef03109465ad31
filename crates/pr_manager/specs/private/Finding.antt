-- The first of a list that passes a test. Private contracts cite this: a reader can pass it over.
use Rattle.std.specs.Prelude.{ℕ, suc, Bool, cond, List, [], ◌∷◌, Option, Some, None}
use Rattle.std.specs.Option.{option_map}

-- its place, from 0
abbrev pub place_of : {A : Type 0} → (A → Bool) → List A → Option ℕ
place_of test [] = None
place_of test (x ∷ xs) = cond (test x) (Some 0) (option_map suc (place_of test xs))
