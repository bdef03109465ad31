-- Where tokens stand: each at a byte of its line, and each further on in the text than the one
-- before it.
use Rattle.std.specs.Prelude.{◌≡◌, ℕ, ◌-◌, ◌<◌, ◌≤◌, ◌⊎◌, List, [], ◌∷◌, length, get_or}
use Rattle.pr_yaml.specs.declared.yaml_scan.token.Token.{Token}

-- on a line further down, or further on in the same one
abbrev pub IsBefore : Token → Token → Type 0
IsBefore t u = (t.line < u.line) ⊎ ((t.line ≡ u.line) × (t.column < u.column))

abbrev pub AreRising : List Token → Type 0
AreRising [] = Unit {0}
AreRising (t ∷ []) = Unit {0}
AreRising (t ∷ (u ∷ more)) = IsBefore t u × AreRising (u ∷ more)

-- a byte of these lines, the first of which has the number 1
pub record StandsIn (lines : List (List ℕ)) (t : Token) : Type 0 where
  pub from : 1 ≤ t.line
  pub within : t.column < length (get_or lines (t.line - 1) [])

abbrev pub AllStandIn : List (List ℕ) → List Token → Type 0
AllStandIn lines [] = Unit {0}
AllStandIn lines (t ∷ more) = StandsIn lines t × AllStandIn lines more
