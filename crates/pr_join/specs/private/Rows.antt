-- What is kept of the pairs so far.
use Rattle.std.specs.Prelude.{◌≡◌, ℕ, Bool, true, false, List, [], ◌++◌, map, slice_get, Option, Some, None, Result}
use Rattle.std.specs.List.{list_any}
use Rattle.std.specs.BTreeMap.{BTreeMap}
use Rattle.spec_vectors.specs.pr_num.declared.value.Num.{Num}
use Rattle.spec_vectors.specs.pr_num.declared.value.TooWide.{TooWide}
use Rattle.spec_vectors.specs.pr_labels.declared.matching.Matching.{Matching}
use Rattle.spec_vectors.specs.pr_labels.declared.pair.Pair.{Pair}
use Rattle.spec_vectors.specs.pr_labels.declared.item.Item.{Item}
use Rattle.spec_vectors.specs.pr_labels.declared.matching.Card.{Card}
use Rattle.spec_vectors.specs.pr_labels.declared.matching.Card.TheVariants.{OneToOne, ManyToOne, OneToMany}
use Rattle.spec_vectors.specs.pr_labels.Order.{labels_eq}
use Rattle.spec_vectors.specs.Vectors.{element, in_order}
use Rattle.spec_vectors.specs.Matching.{KeptPair, Operator, fault_of_outcomes, items_kept, key_of, kept_pairs, pair_outcome, pairs_with}
use Rattle.spec_vectors.specs.pr_labels.private.Entries.{items_of}
use Rattle.pr_join.specs.private.Keys.{HasKeys}
use Rattle.pr_join.specs.declared.rows.JoinedElements.{JoinedElements}

-- the elements of a map
abbrev pub elements : BTreeMap (List Pair) Num → List (Item Num)
elements m = items_of m.entries

abbrev pub is_one_to_one : Card → Bool
is_one_to_one OneToOne = true
is_one_to_one ManyToOne = false
is_one_to_one OneToMany = false

-- in one-to-one matching a key may come once
abbrev pub keyed : Card → List KeptPair → List KeptPair
keyed OneToOne before = before
keyed ManyToOne before = []
keyed OneToMany before = []

abbrev pub labels_in : KeptPair → List Pair
labels_in k = k.item.labels

-- the elements that the pairs before gave, by their labels
pub record HasItems (before : List KeptPair) (entries : List (List Pair × Num)) : Type 0 where
  pub listed : items_of entries ≡ in_order (items_kept before)
  pub labels : HasKeys labels_in before entries

-- which elements of the one side have the key of a pair before, where each key may come once
pub record HasTakenKeys (how : Matching) (ones : List (Item Num)) (before : List KeptPair) (taken : List Bool) : Type 0 where
  pub told : (i : ℕ) (e : Item Num) → slice_get ones i ≡ Some e → slice_get taken i ≡ Some (list_any (λ k. labels_eq k.key (key_of how e)) (keyed how.card before))

pub record HasKept (how : Matching) (ones : List (Item Num)) (before : List KeptPair) (rows : JoinedElements) : Type 0 where
  pub items : HasItems before rows.items
  pub taken : HasTakenKeys how ones before rows.taken.items

-- a kept pair by its parts
abbrev pub kept_with : List Pair → List Pair → Num → KeptPair
kept_with key labels value = record { key = key; item = element labels value }

-- what becomes of the pairs of an element of the many side
abbrev pub outcomes_with : Matching → Bool → Operator → List (Item Num) → Item Num → List (Result (Option KeptPair) TooWide)
outcomes_with how keep_name f ones m = map (pair_outcome how keep_name f) (pairs_with how ones m)

-- pairs without a fault after those kept before them, and what is kept then
pub record AreRowsTaken (how : Matching) (ones : List (Item Num)) (before : List KeptPair) (outcomes : List (Result (Option KeptPair) TooWide)) (rows : JoinedElements) : Type 0 where
  pub faultless : fault_of_outcomes how.card before outcomes ≡ None
  pub holds : HasKept how ones (before ++ kept_pairs outcomes) rows
