-- What is taken of a list stands in it under its number.
use Rattle.std.proofs.Common.{◌≡◌, ℕ, ◌+◌, Bool, true, false, cond, List, [], ◌∷◌, ◌++◌, length, map, slice_get, Option, Some, None, refl, sym, ap, ◌∙◌, subst, append_assoc, length-append}
use Rattle.std.specs.Prelude.{find}
use Rattle.std.specs.Option.{option_and_then, option_map}
use Rattle.spec_rules.specs.private.Laws.{Numbered, numbered, numbered_from, numbers_taken}
use Rattle.spec_rules.specs.Taking.{taken, without_first}

-- The items of numbered ones are taken as they are without numbers.

abbrev items : {B : Type 0} → List (Numbered B) → List B
items ns = map (λ n. n.item) ns

found_item : {B : Type 0} (test : B → Bool) (ns : List (Numbered B)) → option_map (λ n. n.item) (find (λ n. test n.item) ns) ≡ find test (items ns)
found_item test [] = refl
found_item test (n ∷ ns) = by (test n.item) (found_item test ns) where
  by : (b : Bool) → option_map (λ n. n.item) (find (λ n. test n.item) ns) ≡ find test (items ns)
      → option_map (λ n. n.item) (cond b (Some n) (find (λ n. test n.item) ns)) ≡ cond b (Some n.item) (find test (items ns))
  by true h = refl
  by false h = h

others_items : {B : Type 0} (test : B → Bool) (ns : List (Numbered B)) → items (without_first (λ n. test n.item) ns) ≡ without_first test (items ns)
others_items test [] = refl
others_items test (n ∷ ns) = by (test n.item) (others_items test ns) where
  by : (b : Bool) → items (without_first (λ n. test n.item) ns) ≡ without_first test (items ns)
      → items (cond b ns (n ∷ without_first (λ n. test n.item) ns)) ≡ cond b (items ns) (n.item ∷ without_first test (items ns))
  by true h = refl
  by false h = ap (λ l. n.item ∷ l) h

taken_items : {A B : Type 0} (may_take : A → B → Bool) (news : List A) (ns : List (Numbered B))
    → map (option_map (λ n. n.item)) (taken (λ a n. may_take a n.item) news ns) ≡ taken may_take news (items ns)
taken_items may_take [] ns = refl
taken_items may_take (a ∷ news) ns = λ i. found_item (may_take a) ns i
    ∷ (taken_items may_take news (without_first (λ n. may_take a n.item) ns) ∙ ap (taken may_take news) (others_items (may_take a) ns)) i

items_are : {B : Type 0} (i : ℕ) (bs : List B) → items (numbered_from i bs) ≡ bs
items_are i [] = refl
items_are i (b ∷ bs) = ap (λ l. b ∷ l) (items_are (i + 1) bs)

-- Numbers

-- each stands under its number in a list
abbrev Stand : {B : Type 0} → List B → List (Numbered B) → Type 0
Stand all [] = Unit {0}
Stand all (n ∷ ns) = (slice_get all n.index ≡ Some n.item) × Stand all ns

at_end : {B : Type 0} (before : List B) (b : B) (bs : List B) → slice_get (before ++ b ∷ bs) (length before) ≡ Some b
at_end [] b bs = refl
at_end (first ∷ before) b bs = at_end before b bs

numbered_stand : {B : Type 0} (before bs : List B) → Stand (before ++ bs) (numbered_from (length before) bs)
numbered_stand before [] = tt
numbered_stand before (b ∷ bs) = (
  at_end before b bs,
  subst (λ n. Stand (before ++ b ∷ bs) (numbered_from n bs)) (length-append before (b ∷ []))
      (subst (λ l. Stand l (numbered_from (length (before ++ b ∷ [])) bs)) (append_assoc before (b ∷ []) bs) (numbered_stand (before ++ b ∷ []) bs)),
)

others_stand : {B : Type 0} (all : List B) (test : Numbered B → Bool) (ns : List (Numbered B)) → Stand all ns → Stand all (without_first test ns)
others_stand all test [] h = tt
others_stand all test (n ∷ ns) h = by (test n) (others_stand all test ns h.1) where
  by : (b : Bool) → Stand all (without_first test ns) → Stand all (cond b ns (n ∷ without_first test ns))
  by true k = h.1
  by false k = (h.0, k)

found_stands : {B : Type 0} (all : List B) (test : Numbered B → Bool) (ns : List (Numbered B)) → Stand all ns
    → option_map (λ n. n.item) (find test ns) ≡ option_and_then (slice_get all) (option_map (λ n. n.index) (find test ns))
found_stands all test [] h = refl
found_stands all test (n ∷ ns) h = by (test n) (found_stands all test ns h.1) where
  by : (b : Bool) → option_map (λ n. n.item) (find test ns) ≡ option_and_then (slice_get all) (option_map (λ n. n.index) (find test ns))
      → option_map (λ n. n.item) (cond b (Some n) (find test ns)) ≡ option_and_then (slice_get all) (option_map (λ n. n.index) (cond b (Some n) (find test ns)))
  by true k = sym h.0
  by false k = k

taken_stand : {A B : Type 0} (all : List B) (may_take : A → Numbered B → Bool) (news : List A) (ns : List (Numbered B)) → Stand all ns
    → map (option_map (λ n. n.item)) (taken may_take news ns) ≡ map (option_and_then (slice_get all)) (map (option_map (λ n. n.index)) (taken may_take news ns))
taken_stand all may_take [] ns h = refl
taken_stand all may_take (a ∷ news) ns h =
    λ i. found_stands all (may_take a) ns h i ∷ taken_stand all may_take news (without_first (may_take a) ns) (others_stand all (may_take a) ns h) i

pub taken_under_numbers : {A B : Type 0} (may_take : A → B → Bool) (news : List A) (olds : List B)
    → taken may_take news olds ≡ map (option_and_then (slice_get olds)) (numbers_taken may_take news olds)
taken_under_numbers may_take news olds =
    sym (taken_items may_take news (numbered olds) ∙ ap (taken may_take news) (items_are 0 olds))
    ∙ taken_stand olds (λ a n. may_take a n.item) news (numbered olds) (numbered_stand [] olds)
