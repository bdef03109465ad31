-- Where the elements of a side stand by their keys.
use Rattle.std.specs.Prelude.{◌≡◌, ℕ, ◌<◌, nat_eq, true, false, cond, List, length, find, slice_get, Option, Some, None, IfSome}
use Rattle.std.specs.Option.{option_and_then}
use Rattle.std.specs.Ordering.{is_lt}
use Rattle.indexmap.specs.IndexMap.{IndexMap, IsUnique, get}
use Rattle.spec_vectors.specs.pr_num.declared.value.Num.{Num}
use Rattle.spec_vectors.specs.pr_labels.declared.pair.Pair.{Pair}
use Rattle.spec_vectors.specs.pr_labels.declared.item.Item.{Item}
use Rattle.spec_vectors.specs.pr_labels.declared.matching.Matching.{Matching}
use Rattle.spec_vectors.specs.pr_labels.Order.{labels_cmp, labels_eq}
use Rattle.spec_vectors.specs.Matching.{has_key, is_shared}
use Rattle.pr_join.specs.declared.places.KeyPlace.{KeyPlace}

-- the element at a place
abbrev pub item_at : List (Item Num) → KeyPlace → Option (Item Num)
item_at side p = slice_get side p.index

-- What is kept of a key: the place of the first element of the side that has it, and whether
-- another one has it. The front of the side is what was seen of it.
pub record IsPlaceOf (how : Matching) (side front : List (Item Num)) (key : List Pair) (o : Option KeyPlace) : Type 0 where
  pub first : option_and_then (item_at side) o ≡ find (has_key how key) front
  pub within : IfSome o (λ p. p.index < length side)
  pub shared : IfSome o (λ p. p.shared ≡ is_shared how front key)

pub record IsIndexOf {S : Type 0} (how : Matching) (side front : List (Item Num)) (places : IndexMap (List Pair) KeyPlace S) : Type 0 where
  pub unique : IsUnique labels_eq places
  pub at : (key : List Pair) → IsPlaceOf how side front key (get labels_eq places key)

-- the element at the index, and no other one, has the key
pub record IsOnlyAt (how : Matching) (side : List (Item Num)) (key : List Pair) (index : ℕ) : Type 0 where
  pub within : index < length side
  pub only : (i : ℕ) (e : Item Num) → slice_get side i ≡ Some e → has_key how key e ≡ nat_eq i index

-- what is kept of a key with one more element, at the index
abbrev pub place_with : Option KeyPlace → ℕ → KeyPlace
place_with None index = record { index = index; shared = false }
place_with (Some p) index = record { index = p.index; shared = true }

-- one more element, at the index, is put in by its key
pub record IsPlaced {S : Type 0} (how : Matching) (e : Item Num) (index : ℕ) (old new : IndexMap (List Pair) KeyPlace S) : Type 0 where
  pub unique : IsUnique labels_eq new
  pub at : (key : List Pair) → get labels_eq new key ≡ cond (has_key how key e) (Some (place_with (get labels_eq old key) index)) (get labels_eq old key)

-- the lesser one of a key and the least of those before it
abbrev pub lesser : Option (List Pair) → List Pair → List Pair
lesser None key = key
lesser (Some least) key = cond (is_lt (labels_cmp least key)) least key

-- the least so far with one more entry, which counts where another element has its key
abbrev pub least_with : Option (List Pair) → List Pair × KeyPlace → Option (List Pair)
least_with least e = cond e.1.shared (Some (lesser least e.0)) least

-- an entry tells what is kept of its key
abbrev pub IsTold : Matching → List (Item Num) → List Pair × KeyPlace → Type 0
IsTold how side e = IsPlaceOf how side side e.0 (Some e.1)
