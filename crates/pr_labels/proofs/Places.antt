-- Where a name stands in a label set, and what an edit at that place gives.
use Rattle.std.proofs.Common.{◌≡◌, ℕ, zero, suc, ◌+◌, ◌<◌, ◌≤◌, List, [], ◌∷◌, ◌++◌, Bool, true, false, cond, not, filter, length, take, drop, get_or, set, Some, None, Option, Result, Ok, Err, IfOk, IfErr, OnOk, OnErr, refl, sym, ap, ◌∙◌, arith, add-one}
use Rattle.std.specs.Cmp.Lexicographic.{slice_cmp, texts_ties}
use Rattle.std.specs.List.{insert, remove}
use Rattle.std.specs.List.Sorted.{IsBinarySearchResult, IsSearchInRange, IsSortedByKey}
use Rattle.std.specs.Ordering.{nat_cmp, is_eq, is_lt, ordering_reverse}
use Rattle.std.specs.Str.{bytes_eq}
use Rattle.std.specs.declared.cmp.Ordering.{Ordering}
use Rattle.std.specs.declared.cmp.Ordering.TheVariants.{Less, Equal, Greater}
use Rattle.std.proofs.lemmas.Cmp.{nat_list_cmp_total}
use Rattle.std.proofs.lemmas.List.{get_or_default}
use Rattle.std.proofs.lemmas.List.Sorted.{searchable_from_sorted}
use Rattle.pr_labels.specs.declared.pair.Pair.{Pair}
use Rattle.pr_labels.specs.Edits.{is_above, is_below, set_label, set_pair, without_name}
use Rattle.pr_labels.specs.LabelSet.{IsLabel, IsLabelSet, IsBelowFirst, has_name, value_of}
use Rattle.pr_labels.specs.private.Places.{IsGapFor, IsPlaceOf}
use Rattle.pr_labels.proofs.LabelLaws.{alike, none_above, same_names, value_hit, value_miss, value_remove}
use Rattle.pr_labels.proofs.LabelSets.{filtered_is_set}
use Rattle.pr_labels.proofs.Putting.{all_above, below_by, by_order, label_alone, put_in, set_nothing, set_pair_is_put}

-- names rise, as a search asks
not_lt : (o : Ordering) → o ≡ Less → is_lt (ordering_reverse o) ≡ false
not_lt Less h = refl
not_lt Equal h = refl
not_lt Greater h = cc

not_before : (a b : List ℕ) → slice_cmp nat_cmp a b ≡ Less → is_lt (slice_cmp nat_cmp b a) ≡ false
not_before a b h = ap is_lt (nat_list_cmp_total.antisymm b a) ∙ not_lt (slice_cmp nat_cmp a b) h

first_rises : (p : Pair) (ps : List Pair) (d : Pair) → 1 < length (p ∷ ps) → IsBelowFirst p.name ps → is_lt (slice_cmp nat_cmp (get_or ps 0 d).name p.name) ≡ false
first_rises p [] d lt b = absurd (omega arith)
first_rises p (q ∷ qs) d lt b = not_before p.name q.name b

names_rise : (ps : List Pair) → IsLabelSet ps → IsSortedByKey (λ p. p.name) (slice_cmp nat_cmp) ps
names_rise [] s k d low lt = absurd (omega arith)
names_rise (p ∷ ps) s zero d low lt = first_rises p ps d lt s.1
names_rise (p ∷ ps) s (suc k) d low lt = let rest = names_rise ps s.2 k d (omega arith) (omega arith) in rw add-one (rw add-one at rest)

-- what the filters give where the names below and those above are known by their places
tie_of : (o : Ordering) → o ≡ Less → is_eq o ≡ false
tie_of Less h = refl
tie_of Equal h = cc
tie_of Greater h = cc

split_below : (p : Pair) (ps : List Pair) (name : List ℕ) (n : ℕ) → slice_cmp nat_cmp p.name name ≡ Less → filter (is_below name) ps ≡ take n ps → filter (is_below name) (p ∷ ps) ≡ p ∷ take n ps
split_below p ps name n less h = rw less (ap (λ t. p ∷ t) h)

none_below : (p : Pair) (ps rest : List Pair) (name : List ℕ) → slice_cmp nat_cmp p.name name ≡ Greater → filter (is_below name) ps ≡ rest → filter (is_below name) (p ∷ ps) ≡ rest
none_below p ps rest name more h = rw more h

pub turned_round : (a b : List ℕ) (o : Ordering) → slice_cmp nat_cmp a b ≡ o → slice_cmp nat_cmp b a ≡ ordering_reverse o
turned_round a b o h = nat_list_cmp_total.antisymm b a ∙ ap ordering_reverse h

not_above : (p : Pair) (ps rest : List Pair) (name : List ℕ) → slice_cmp nat_cmp p.name name ≡ Less → filter (is_above name) ps ≡ rest → filter (is_above name) (p ∷ ps) ≡ rest
not_above p ps rest name less h = rw (turned_round p.name name Less less) h

one_above : (p : Pair) (ps rest : List Pair) (name : List ℕ) → slice_cmp nat_cmp p.name name ≡ Greater → filter (is_above name) ps ≡ rest → filter (is_above name) (p ∷ ps) ≡ p ∷ rest
one_above p ps rest name more h = rw (turned_round p.name name Greater more) (ap (λ t. p ∷ t) h)

abbrev AllBelow : List Pair → List ℕ → ℕ → Type 0
AllBelow ps name n = (k : ℕ) (d : Pair) → 0 ≤ k → k < n → slice_cmp nat_cmp (get_or ps k d).name name ≡ Less

abbrev AllBehind : List Pair → List ℕ → ℕ → Type 0
AllBehind ps name n = (k : ℕ) (d : Pair) → n ≤ k → k < length ps → slice_cmp nat_cmp (get_or ps k d).name name ≡ Greater

gap_splits : (ps : List Pair) (name : List ℕ) (n : ℕ) → n ≤ length ps → AllBelow ps name n → AllBehind ps name n → IsGapFor ps name n
gap_splits [] name zero le below behind = record { within = omega arith; below = refl; above = refl }
gap_splits [] name (suc n) le below behind = absurd (omega arith)
gap_splits (p ∷ ps) name zero le below behind =
    let rest : IsGapFor ps name zero = gap_splits ps name zero (omega arith) (λ k d low lt. absurd (omega arith)) (λ k d low lt. behind (suc k) d (omega arith) (omega arith)) in
    let more : slice_cmp nat_cmp p.name name ≡ Greater = behind zero p (omega arith) (omega arith) in
    record { within = omega arith; below = none_below p ps [] name more rest.below; above = one_above p ps ps name more rest.above }
gap_splits (p ∷ ps) name (suc n) le below behind =
    let rest : IsGapFor ps name n = gap_splits ps name n (omega arith) (λ k d low lt. below (suc k) d (omega arith) (omega arith)) (λ k d low lt. behind (suc k) d (omega arith) (omega arith)) in
    let less : slice_cmp nat_cmp p.name name ≡ Less = below zero p (omega arith) (omega arith) in
    record { within = le; below = split_below p ps name n less rest.below; above = not_above p ps (drop n ps) name less rest.above }

equal_order : (o : Ordering) → is_eq o ≡ true → o ≡ Equal
equal_order Less h = cc
equal_order Equal h = refl
equal_order Greater h = cc

equal_names : (a b : List ℕ) → bytes_eq a b ≡ true → slice_cmp nat_cmp a b ≡ Equal
equal_names a b h = equal_order (slice_cmp nat_cmp a b) (sym (texts_ties a b) ∙ h)

same_by_order : (a b : List ℕ) → slice_cmp nat_cmp a b ≡ Equal → bytes_eq a b ≡ true
same_by_order a b e = texts_ties a b ∙ ap is_eq e

-- a search by name ends at the name, or at the gap for it
pub searched : (ps : List Pair) (name : List ℕ) → IsLabelSet ps → (r : Result ℕ ℕ) → IsSearchInRange r (length ps) → IsBinarySearchResult (λ p. slice_cmp nat_cmp p.name name) ps r →
    record { found : IfOk r (IsPlaceOf ps name); absent : IfErr r (IsGapFor ps name) }
searched ps name s (Ok n) within at = record { found = record { within = within; named = λ d. same_by_order (get_or ps n d).name name (at d) }; absent = tt }
searched ps name s (Err n) within parted =
    let split = parted (searchable_from_sorted nat_list_cmp_total (λ p. p.name) ps name (names_rise ps s)) in
    record { found = tt; absent = gap_splits ps name n within split.0 split.1 }

-- no name stands in two places
next_place : (p : Pair) (ps : List Pair) (name : List ℕ) (n : ℕ) → IsPlaceOf (p ∷ ps) name (suc n) → IsPlaceOf ps name n
next_place p ps name n at = record { within = omega (arith, at.within); named = λ d. at.named d }

none_some : {X : Type 0} (x : X) (o : Option X) → o ≡ None → o ≡ Some x → ⊥
none_some x o h k = cc

-- the value at the name's place
pub value_at : (ps : List Pair) (name : List ℕ) (n : ℕ) (y : Pair) → IsLabelSet ps → IsPlaceOf ps name n → y ≡ get_or ps n y → value_of ps name ≡ Some y.value
value_at [] name n y s at is = absurd (omega (arith, at.within))
value_at (p ∷ ps) name zero y s at is = value_hit p ps name (at.named p) ∙ ap (λ q. Some q.value) (sym is)
value_at (p ∷ ps) name (suc n) y s at is = by_test (bytes_eq p.name name) refl (value_at ps name n y s.2 (next_place p ps name n at) is) where
  by_test : (b : Bool) → bytes_eq p.name name ≡ b → value_of ps name ≡ Some y.value → value_of (p ∷ ps) name ≡ Some y.value
  by_test true tie rest = absurd (none_some y.value (value_of ps name) (ap (value_of ps) (sym (same_names p.name name tie)) ∙ none_above p.name ps s.2 s.1) rest)
  by_test false tie rest = value_miss p ps name tie ∙ rest

-- a name with a place has a value
some_value : (ps : List Pair) (name : List ℕ) (n : ℕ) → IsLabelSet ps → IsPlaceOf ps name n → value_of ps name ≡ None → ⊥
some_value [] name n s at = absurd (omega (arith, at.within))
some_value (p ∷ ps) name n s at = λ none.
    let y : Pair = get_or (p ∷ ps) n p in
    none_some y.value (value_of (p ∷ ps) name) none (value_at (p ∷ ps) name n y s at (get_or_default (p ∷ ps) n p y at.within))

-- what stands before the name's place is below it
first_below : (p : Pair) (ps : List Pair) (name : List ℕ) (n : ℕ) → IsLabelSet (p ∷ ps) → IsPlaceOf ps name n → slice_cmp nat_cmp p.name name ≡ Less
first_below p ps name n s at = by_order_of (slice_cmp nat_cmp p.name name) refl where
  far : (o : Ordering) → slice_cmp nat_cmp p.name name ≡ o → is_lt o ≡ false → ⊥
  far o e l =
      some_value ps name n s.2 at (none_above name ps s.2 (below_by o name p ps e l s.1))

  by_order_of : (o : Ordering) → slice_cmp nat_cmp p.name name ≡ o → o ≡ Less
  by_order_of Less e = refl
  by_order_of Equal e = absurd (far Equal e refl)
  by_order_of Greater e = absurd (far Greater e refl)

-- the pair at the place goes
drops_first : (p : Pair) (ps : List Pair) (name : List ℕ) → IsLabelSet (p ∷ ps) → bytes_eq p.name name ≡ true → without_name (p ∷ ps) name ≡ ps
drops_first p ps name s tie = rw tie (ap (without_name ps) (sym (same_names p.name name tie)) ∙ (all_above p.name ps s.2 s.1).others)

keeps_first : (p : Pair) (ps rest : List Pair) (name : List ℕ) → bytes_eq p.name name ≡ false → without_name ps name ≡ rest → without_name (p ∷ ps) name ≡ p ∷ rest
keeps_first p ps rest name tie h = rw tie (ap (λ t. p ∷ t) h)

pub removed : (ps : List Pair) (name : List ℕ) (n : ℕ) → IsLabelSet ps → IsPlaceOf ps name n → remove ps n ≡ without_name ps name
removed [] name n s at = absurd (omega (arith, at.within))
removed (p ∷ ps) name zero s at = sym (drops_first p ps name s (at.named p))
removed (p ∷ ps) name (suc n) s at =
    let less : slice_cmp nat_cmp p.name name ≡ Less = first_below p ps name n s (next_place p ps name n at) in
    let apart : bytes_eq p.name name ≡ false = texts_ties p.name name ∙ tie_of (slice_cmp nat_cmp p.name name) less in
    sym (keeps_first p ps (remove ps n) name apart (sym (removed ps name n s.2 (next_place p ps name n at))))

-- the new pair stands instead of the one at the place
put_first : (p x : Pair) (ps rest : List Pair) → bytes_eq p.name x.name ≡ true → x ∷ ps ≡ by_order (slice_cmp nat_cmp p.name x.name) p ps (x ∷ []) rest
put_first p x ps rest tie = by_order_of (slice_cmp nat_cmp p.name x.name) (sym (texts_ties p.name x.name) ∙ tie) where
  by_order_of : (o : Ordering) → is_eq o ≡ true → x ∷ ps ≡ by_order o p ps (x ∷ []) rest
  by_order_of Less e = cc
  by_order_of Equal e = refl
  by_order_of Greater e = cc

put_later : (p x : Pair) (ps rest : List Pair) → slice_cmp nat_cmp p.name x.name ≡ Less → p ∷ rest ≡ by_order (slice_cmp nat_cmp p.name x.name) p ps (x ∷ []) rest
put_later p x ps rest less = rw less refl

written : (ps : List Pair) (x : Pair) (n : ℕ) → IsLabelSet ps → IsPlaceOf ps x.name n → set ps n x ≡ put_in x.name (x ∷ []) ps
written [] x n s at = absurd (omega (arith, at.within))
written (p ∷ ps) x zero s at = put_first p x ps (put_in x.name (x ∷ []) ps) (at.named p)
written (p ∷ ps) x (suc n) s at =
    let rest : IsPlaceOf ps x.name n = next_place p ps x.name n at in
    ap (λ t. p ∷ t) (written ps x n s.2 rest) ∙ put_later p x ps (put_in x.name (x ∷ []) ps) (first_below p ps x.name n s rest)

pub put_over : (ps : List Pair) (x : Pair) (n : ℕ) → IsLabelSet ps → IsLabel x → IsPlaceOf ps x.name n → set ps n x ≡ set_pair ps x
put_over ps x n s l at = written ps x n s at ∙ set_pair_is_put x ps s l

-- what the filters give at a gap
pub put_between : (ps : List Pair) (x : Pair) (n : ℕ) → IsLabel x → IsGapFor ps x.name n → insert ps n x ≡ set_pair ps x
put_between ps x n l gap = rw (gap.below, gap.above, label_alone x.name x.value l.value) refl

split_again : (n : ℕ) (ps : List Pair) → take n ps ++ drop n ps ≡ ps
split_again zero ps = refl
split_again (suc n) [] = refl
split_again (suc n) (p ∷ ps) = ap (λ t. p ∷ t) (split_again n ps)

pub nothing_removed : (ps : List Pair) (name : List ℕ) (n : ℕ) → IsLabelSet ps → IsGapFor ps name n → ps ≡ without_name ps name
nothing_removed ps name n s gap = sym (set_nothing name ps s ∙ rw (gap.below, gap.above) (split_again n ps))

pub no_value : (ps : List Pair) (name : List ℕ) (n : ℕ) → IsLabelSet ps → IsGapFor ps name n → value_of ps name ≡ None
no_value ps name n s gap =
    ap (λ t. value_of t name) (nothing_removed ps name n s gap) ∙ (value_remove ps name name ∙ ap (λ t. cond t None (value_of ps name)) (alike name))

-- whether or not the pair at the place could be taken out, a label set remains
pub taken_is_set : {T E : Type 0} (r : Result T E) (old new : List Pair) (name : List ℕ) (n : ℕ) → IsLabelSet old → IsPlaceOf old name n → OnOk r (new ≡ remove old n) → OnErr r (new ≡ old) → IsLabelSet new
taken_is_set (Ok x) old new name n s at ok err = filtered_is_set (λ p. not (has_name name p)) old new s (ok ∙ removed old name n s at)
taken_is_set (Err x) old new name n s at ok err = rw err s

-- what stands before the name's place, and what stands behind it
pub below_place : (ps : List Pair) (name : List ℕ) (n : ℕ) → IsLabelSet ps → IsPlaceOf ps name n → take n ps ≡ filter (is_below name) ps
below_place [] name n s at = absurd (omega (arith, at.within))
below_place (p ∷ ps) name zero s at =
    let tie : slice_cmp nat_cmp p.name name ≡ Equal = equal_names p.name name (at.named p) in
    sym (rw tie (all_above name ps s.2 (below_by Equal name p ps tie refl s.1)).none)
below_place (p ∷ ps) name (suc n) s at =
    let rest : IsPlaceOf ps name n = next_place p ps name n at in
    sym (split_below p ps name n (first_below p ps name n s rest) (sym (below_place ps name n s.2 rest)))

above_at : (ps : List Pair) (name : List ℕ) (n : ℕ) → IsLabelSet ps → IsPlaceOf ps name n → drop (suc n) ps ≡ filter (is_above name) ps
above_at [] name n s at = absurd (omega (arith, at.within))
above_at (p ∷ ps) name zero s at =
    let tie : slice_cmp nat_cmp p.name name ≡ Equal = equal_names p.name name (at.named p) in
    sym (rw (turned_round p.name name Equal tie) (all_above name ps s.2 (below_by Equal name p ps tie refl s.1)).all)
above_at (p ∷ ps) name (suc n) s at =
    let rest : IsPlaceOf ps name n = next_place p ps name n at in
    sym (not_above p ps (drop (suc n) ps) name (first_below p ps name n s rest) (sym (above_at ps name n s.2 rest)))

pub above_place : (ps : List Pair) (name : List ℕ) (n : ℕ) → IsLabelSet ps → IsPlaceOf ps name n → drop (n + 1) ps ≡ filter (is_above name) ps
above_place ps name n s at = rw add-one (above_at ps name n s at)

-- to take the pair at a place out is to set its name to nothing
pub emptied : (ps now : List Pair) (name : List ℕ) (n : ℕ) → IsLabelSet ps → IsPlaceOf ps name n → ps ≡ now → remove ps n ≡ set_label now name []
emptied ps now name n s at e = removed ps name n s at ∙ (set_nothing name ps s ∙ ap (λ t. set_label t name []) e)
