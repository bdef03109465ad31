-- The keys of a side, and the elements that have one of them.
use Rattle.std.specs.Prelude.{◌≡◌, Bool, true, false, not, List, filter, is_some}
use Rattle.std.specs.List.{list_any}
use Rattle.indexmap.specs.IndexMap.{IndexMap, get}
use Rattle.spec_vectors.specs.pr_num.declared.value.Num.{Num}
use Rattle.spec_vectors.specs.pr_labels.declared.pair.Pair.{Pair}
use Rattle.spec_vectors.specs.pr_labels.declared.item.Item.{Item}
use Rattle.spec_vectors.specs.pr_labels.declared.matching.Matching.{Matching}
use Rattle.spec_vectors.specs.pr_labels.Order.{labels_eq}
use Rattle.spec_vectors.specs.Matching.{has_key, is_matched}

-- a key is there exactly where an element has it
pub record AreKeysOf {S : Type 0} (how : Matching) (side : List (Item Num)) (keys : IndexMap (List Pair) (Unit {0}) S) : Type 0 where
  pub has : (key : List Pair) → is_some (get labels_eq keys key) ≡ list_any (has_key how key) side

-- whether it is wanted that an element has a match
abbrev pub matched : Matching → List (Item Num) → Bool → Item Num → Bool
matched how other true e = is_matched how other e
matched how other false e = not (is_matched how other e)

abbrev pub with_match : Matching → List (Item Num) → Bool → List (Item Num) → List (Item Num)
with_match how other wanted side = filter (matched how other wanted) side
