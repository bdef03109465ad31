-- What keeps a list of pairs a label set.
use Rattle.std.proofs.Common.{◌≡◌, ℕ, List, [], ◌∷◌, true, false, Bool, cond, filter, refl, ap, length, arith, Result, Ok, Err, IfOk, Vec, Global}
use Rattle.std.specs.Cmp.Lexicographic.{slice_cmp}
use Rattle.std.specs.Ordering.{nat_cmp}
use Rattle.std.specs.declared.cmp.Ordering.TheVariants.{Less}
use Rattle.std.proofs.lemmas.Cmp.{nat_list_cmp_total}
use Rattle.pr_labels.specs.declared.pair.Pair.{Pair}
use Rattle.pr_labels.specs.private.Chosen.{is_chosen}
use Rattle.pr_labels.specs.Edits.{listed_labels, unlisted_labels}
use Rattle.pr_labels.specs.LabelSet.{IsLabel, IsLabelSet, IsBelowFirst}

below_trans : (a b c : List ℕ) → slice_cmp nat_cmp a b ≡ Less → slice_cmp nat_cmp b c ≡ Less → slice_cmp nat_cmp a c ≡ Less
below_trans a b c h k = nat_list_cmp_total.trans a b c h k

pub below_next : (name : List ℕ) (q : Pair) (qs : List Pair) → IsBelowFirst name (q ∷ qs) → IsBelowFirst q.name qs → IsBelowFirst name qs
below_next name q [] h k = tt
below_next name q (r ∷ rs) h k = below_trans name q.name r.name h k

below_chosen : (name : List ℕ) (q : Pair) (test : Bool) (t : List Pair) → IsBelowFirst name (q ∷ t) → IsBelowFirst name t → IsBelowFirst name (cond test (q ∷ t) t)
below_chosen name q true t h k = h
below_chosen name q false t h k = k

pub below_filter : (p : Pair → Bool) (name : List ℕ) (ps : List Pair) → IsLabelSet ps → IsBelowFirst name ps → IsBelowFirst name (filter p ps)
below_filter p name [] s b = tt
below_filter p name (q ∷ qs) s b =
    below_chosen name q (p q) (filter p qs) b (below_filter p name qs s.2 (below_next name q qs b s.1))

set_chosen : (q : Pair) (test : Bool) (t : List Pair) → IsLabel q → IsBelowFirst q.name t → IsLabelSet t → IsLabelSet (cond test (q ∷ t) t)
set_chosen q true t l b s = (l, b, s)
set_chosen q false t l b s = s

-- a filter of a label set is a label set
pub filter_is_set : (p : Pair → Bool) (ps : List Pair) → IsLabelSet ps → IsLabelSet (filter p ps)
filter_is_set p [] s = tt
filter_is_set p (q ∷ qs) s =
    set_chosen q (p q) (filter p qs) s.0 (below_filter p q.name qs s.2 s.1) (filter_is_set p qs s.2)

-- the same of a list that is the filter
pub filtered_is_set : (p : Pair → Bool) (ps qs : List Pair) → IsLabelSet ps → qs ≡ filter p ps → IsLabelSet qs
filtered_is_set p ps qs s e = rw e (filter_is_set p ps s)

-- no pair is listed where there are no names
all_unlisted : (ps : List Pair) → ps ≡ unlisted_labels ps []
all_unlisted [] = refl
all_unlisted (p ∷ ps) = ap (λ t. p ∷ t) (all_unlisted ps)

pub none_listed : (ps : List Pair) (names : List (List ℕ)) → length names ≡ 0 → ps ≡ unlisted_labels ps names
none_listed ps [] e = all_unlisted ps
none_listed ps (n ∷ ns) e = absurd (omega arith)

-- the chosen pairs are the listed ones, or the others
pub all_listed : (ps : List Pair) (names : List (List ℕ)) → filter (is_chosen true names) ps ≡ listed_labels ps names
unfolding is_chosen
all_listed ps names = refl

pub all_others : (ps : List Pair) (names : List (List ℕ)) → filter (is_chosen false names) ps ≡ unlisted_labels ps names
unfolding is_chosen
all_others ps names = refl

-- chosen pairs are a label set, if there was memory for them
pub chosen_are_set : {E : Type 0} (p : Pair → Bool) (ps : List Pair) (r : Result (Vec Pair Global) E) → IsLabelSet ps → IfOk r (λ v. v.items ≡ filter p ps) → IfOk r (λ v. IsLabelSet v.items)
chosen_are_set p ps (Ok v) s h = filtered_is_set p ps v.items s h
chosen_are_set p ps (Err e) s h = tt
