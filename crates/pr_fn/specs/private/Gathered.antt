-- What a map has of items that are gathered by a key.
use Rattle.std.specs.Prelude.{◌≡◌, List, [], ◌∷◌, fold, map, filter, Option}
use Rattle.std.specs.Ordering.{match_ordering}
use Rattle.std.specs.declared.cmp.Ordering.{Ordering}
use Rattle.std.specs.BTreeMap.{BTreeMap, IsOrdered, get, is_at, keys}

-- one key put among those in order
abbrev pub with_key : {K : Type 0} → (K → K → Ordering) → List K → K → List K
with_key cmp [] key = key ∷ []
with_key cmp (first ∷ rest) key = match_ordering (cmp key first) (key ∷ first ∷ rest) (first ∷ rest) (first ∷ with_key cmp rest key)

-- the items with a key
abbrev pub of_key : {K X : Type 0} → (K → K → Ordering) → (X → K) → K → List X → List X
of_key cmp key q front = filter (λ x. is_at (cmp (key x)) q) front

-- the map has each key of the items, and behind it what they come to
pub record AreGathered {K V X : Type 0} (cmp : K → K → Ordering) (key : X → K) (whole : List X → Option V) (front : List X) (m : BTreeMap K V) : Type 0 where
  pub known : keys m ≡ fold (with_key cmp) [] (map key front)
  pub ordered : IsOrdered cmp m
  pub at : (q : K) → get cmp m q ≡ whole (of_key cmp key q front)
