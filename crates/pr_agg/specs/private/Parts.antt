-- What is kept of the parts of a vector, and what they give.
use Rattle.std.specs.Prelude.{◌≡◌, List, [], ◌∷◌, ◌++◌, map, filter, Option, Some, None, Result, Ok, Err}
use Rattle.std.specs.Fn.{Shared}
use Rattle.indexmap.specs.IndexMap.{IndexMap, IsUnique, get, keys}
use denote.Ref.{Bor}
use Rattle.pr_num.specs.declared.value.Num.{Num}
use Rattle.pr_num.specs.declared.value.Num.TheVariants.{NaN}
use Rattle.pr_num.specs.declared.value.TooWide.{TooWide}
use Rattle.pr_window.specs.pr_labels.declared.pair.Pair.{Pair}
use Rattle.pr_window.specs.pr_labels.declared.item.Item.{Item}
use Rattle.pr_window.specs.pr_labels.Order.{labels_eq}
use Rattle.pr_window.specs.spec_vectors.Vectors.{in_label_order}
use Rattle.pr_window.specs.spec_vectors.Aggregation.{behind, values_of}
use Rattle.pr_window.specs.private.Folding.{folded}

-- each call of the closure on a summary answers what the function gives
pub record Finishes {F A : Type 0} (g : Shared F (Bor A × Unit {0}) (Result Num TooWide)) (finish : F) (f : A → Result Num TooWide) : Type 0 where
  pub gives : (a : Bor A) (r : Result Num TooWide) → g.post finish (a, tt) r → r ≡ f a.now

-- the elements that go by a key
abbrev pub part_by : (Item Num → List Pair) → List (Item Num) → List Pair → List (Item Num)
part_by key front q = filter (λ e. labels_eq (key e) q) front

module _ {A : Type 0} where
  -- what a summary is finished to; no part is empty, so that each has one
  abbrev pub finished : (A → Result Num TooWide) → Option A → Result Num TooWide
  finished f None = Ok NaN
  finished f (Some a) = f a

  module _ (lift : Num → A) (combine : A → A → A) where
    -- what the values of a part give
    abbrev pub fold_and_finish : (A → Result Num TooWide) → List Num → Result Num TooWide
    fold_and_finish f values = finished f (folded lift combine values)

    -- the map has the summary of the values that go by each key
    pub record AreGrouped {S : Type 0} (key : Item Num → List Pair) (front : List (Item Num)) (m : IndexMap (List Pair) A S) : Type 0 where
      pub unique : IsUnique labels_eq m
      pub at : (q : List Pair) → get labels_eq m q ≡ folded lift combine (values_of (part_by key front q))

    -- and each key of the elements seen stands there once, in label order
    pub record AreParts {S : Type 0} (key : Item Num → List Pair) (front : List (Item Num)) (m : IndexMap (List Pair) A S) : Type 0 where
      pub known : keys m ≡ in_label_order (map key front)
      pub grouped : AreGrouped key front m

  -- what the entries of a map give
  abbrev pub finished_all : (A → Result Num TooWide) → List (List Pair × A) → Result (List (Item Num)) TooWide
  finished_all f [] = Ok []
  finished_all f (e ∷ es) = behind e.0 (f e.1) (finished_all f es)

-- elements before what comes after them
abbrev pub after_items : List (Item Num) → Result (List (Item Num)) TooWide → Result (List (Item Num)) TooWide
after_items items (Ok rest) = Ok (items ++ rest)
after_items items (Err fault) = Err fault
