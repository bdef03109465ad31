-- Where the windows of a range selector stand.
use Rattle.std.specs.Prelude.{◌≡◌, ℕ, ◌≤◌, zero, suc, true, false, cond, List, [], ◌∷◌, length, map, take, nat_eq, Option, Some, None}
use Rattle.std.specs.Map.{lookup}
use Rattle.pr_slide.specs.private.Windows.{Nodes}

-- the numbers of the range selectors
abbrev pub numbers_of : Nodes → List ℕ
numbers_of nodes = map (λ n. n.0) nodes

-- a number stands first at a place
abbrev pub IsPlaceIn : List ℕ → ℕ → ℕ → Type 0
IsPlaceIn [] number i = ⊥
IsPlaceIn (n ∷ numbers) number zero = nat_eq number n ≡ true
IsPlaceIn (n ∷ numbers) number (suc i) = (nat_eq number n ≡ false) × IsPlaceIn numbers number i

-- a number stands nowhere
abbrev pub IsAbsent : List ℕ → ℕ → Type 0
IsAbsent [] number = Unit {0}
IsAbsent (n ∷ numbers) number = (nat_eq number n ≡ false) × IsAbsent numbers number

-- its first place, or that it stands nowhere
abbrev pub IsFoundIn : List ℕ → ℕ → Option ℕ → Type 0
IsFoundIn numbers number (Some i) = IsPlaceIn numbers number i
IsFoundIn numbers number None = IsAbsent numbers number

-- The places of the first numbers of a list are noted, and no others.
pub record ArePlacesOf (places : ℕ × List (ℕ × ℕ)) (numbers : List ℕ) : Type 0 where
  pub within : places.0 ≤ length numbers
  pub each : (number : ℕ) → IsFoundIn (take places.0 numbers) number (lookup (nat_eq number) places.1)

-- each number stands at one place alone
abbrev pub AreApart : List ℕ → Type 0
AreApart [] = Unit {0}
AreApart (n ∷ numbers) = IsAbsent numbers n × AreApart numbers

-- The numbers of a list are apart, and the places of the first ones are noted.
pub record AreStandingAt (places : ℕ × List (ℕ × ℕ)) (numbers : List ℕ) : Type 0 where
  pub known : ArePlacesOf places numbers
  pub apart : AreApart numbers

-- what is noted of a number once another one stands at a place: the first place stays
abbrev pub noted : ℕ → ℕ → ℕ → Option ℕ → Option ℕ
noted place other number (Some i) = Some i
noted place other number None = cond (nat_eq other number) (Some place) None

-- the windows of a range selector stand first at a place
abbrev pub IsNodePlace : ℕ → ℕ → Nodes → Type 0
IsNodePlace node i nodes = IsPlaceIn (numbers_of nodes) node i
