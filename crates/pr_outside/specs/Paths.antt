-- Which paths were opened, in order.
use Rattle.std.specs.Prelude.{◌≡◌, ◌⊎◌, ℕ, List, [], ◌∷◌, ◌++◌, Result, Ok, Err}

-- this path was opened, and no other
abbrev pub Opens : List ℕ → List (List ℕ) → List (List ℕ) → Type 0
Opens path before now = now ≡ before ++ path ∷ []

-- no path was opened, or this one
abbrev pub MayOpen : List ℕ → List (List ℕ) → List (List ℕ) → Type 0
MayOpen path before now = (now ≡ before) ⊎ Opens path before now

-- a start opened its path, and a refused one none
abbrev pub StartsPath : {T E : Type 0} → List ℕ → List (List ℕ) → List (List ℕ) → Result T E → Type 0
StartsPath path before now (Ok x) = Opens path before now
StartsPath path before now (Err e) = now ≡ before
