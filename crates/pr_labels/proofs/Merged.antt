-- Two label sets that are gone over together, and what their union is.
use Rattle.std.proofs.Common.{◌≡◌, ℕ, zero, suc, ◌+◌, ◌<◌, ◌≤◌, List, [], ◌∷◌, ◌++◌, filter, length, drop, get_or, refl, sym, ap, ◌∙◌, append_assoc, subst, arith}
use Rattle.std.specs.Cmp.Lexicographic.{slice_cmp}
use Rattle.std.specs.Ordering.{nat_cmp}
use Rattle.std.specs.declared.cmp.Ordering.{Ordering}
use Rattle.std.specs.declared.cmp.Ordering.TheVariants.{Less, Equal, Greater}
use Rattle.std.proofs.lemmas.List.{drop_all, drop_more}
use Rattle.pr_labels.specs.declared.pair.Pair.{Pair}
use Rattle.pr_labels.specs.Edits.{is_above, is_below, set_pair, union_labels}
use Rattle.pr_labels.specs.LabelSet.{IsLabelSet, IsBelowFirst}
use Rattle.pr_labels.proofs.LabelSets.{below_next}
use Rattle.pr_labels.proofs.Places.{turned_round}
use Rattle.pr_labels.proofs.Putting.{AllAbove, all_above, below_by, by_order, put_in, set_pair_is_put}
use Rattle.pr_labels.proofs.SetValues.{set_again}

-- a pair below all that is set stays in front
set_behind : (p q : Pair) (rest : List Pair) → slice_cmp nat_cmp p.name q.name ≡ Less → set_pair (p ∷ rest) q ≡ p ∷ set_pair rest q
set_behind p q rest less = rw (less, turned_round p.name q.name Less less) refl

union_behind : (p : Pair) (rest over : List Pair) → IsLabelSet over → IsBelowFirst p.name over → union_labels (p ∷ rest) over ≡ p ∷ union_labels rest over
union_behind p rest [] s b = refl
union_behind p rest (q ∷ qs) s b =
    ap (λ t. union_labels t qs) (set_behind p q rest b) ∙ union_behind p (set_pair rest q) qs s.2 (below_next p.name q qs b s.1)

set_first : (p q : Pair) (ps new : List Pair) → IsLabelSet (p ∷ ps) → IsLabelSet (q ∷ []) → by_order (slice_cmp nat_cmp p.name q.name) p ps (q ∷ []) (put_in q.name (q ∷ []) ps) ≡ new → set_pair (p ∷ ps) q ≡ new
set_first p q ps new s l h = sym (set_pair_is_put q (p ∷ ps) s l.0) ∙ h

pub less_first : (p q : Pair) (ps qs : List Pair) → IsLabelSet (q ∷ qs) → slice_cmp nat_cmp p.name q.name ≡ Less → union_labels (p ∷ ps) (q ∷ qs) ≡ p ∷ union_labels ps (q ∷ qs)
less_first p q ps qs t less = union_behind p ps (q ∷ qs) t less

pub same_first : (p q : Pair) (ps qs : List Pair) → IsLabelSet (p ∷ ps) → IsLabelSet (q ∷ qs) → slice_cmp nat_cmp p.name q.name ≡ Equal → union_labels (p ∷ ps) (q ∷ qs) ≡ q ∷ union_labels ps qs
same_first p q ps qs s t e =
    ap (λ u. union_labels u qs) (set_first p q ps (q ∷ ps) s (t.0, tt, tt) (rw e refl)) ∙ union_behind q ps qs t.2 t.1

pub greater_first : (p q : Pair) (ps qs : List Pair) → IsLabelSet (p ∷ ps) → IsLabelSet (q ∷ qs) → slice_cmp nat_cmp p.name q.name ≡ Greater → union_labels (p ∷ ps) (q ∷ qs) ≡ q ∷ union_labels (p ∷ ps) qs
greater_first p q ps qs s t e =
    ap (λ u. union_labels u qs) (set_first p q ps (q ∷ p ∷ ps) s (t.0, tt, tt) (rw e refl)) ∙ union_behind q (p ∷ ps) qs t.2 t.1

-- where one of the sets is empty, the union is the other
into_none : (over : List Pair) → IsLabelSet over → union_labels [] over ≡ over
into_none over s = sym (set_again over s)

pub into_empty : (own over : List Pair) → length own ≡ 0 → IsLabelSet over → union_labels own over ≡ over
into_empty [] over e s = into_none over s
into_empty (p ∷ ps) over e s = absurd (omega arith)

-- a pair of the second set stands between those of the first that are below it and those above it
part_by : (o : Ordering) (p q : Pair) (ps qs : List Pair) → slice_cmp nat_cmp p.name q.name ≡ o → IsLabelSet (p ∷ ps) → IsLabelSet (q ∷ qs) →
    union_labels ps (q ∷ qs) ≡ filter (is_below q.name) ps ++ (q ∷ union_labels (filter (is_above q.name) ps) qs) →
    union_labels (p ∷ ps) (q ∷ qs) ≡ filter (is_below q.name) (p ∷ ps) ++ (q ∷ union_labels (filter (is_above q.name) (p ∷ ps)) qs)
part_by Less p q ps qs e s t h =
    less_first p q ps qs t e ∙ rw (e, turned_round p.name q.name Less e) (ap (λ u. p ∷ u) h)
part_by Equal p q ps qs e s t h =
    let behind : AllAbove q.name ps = all_above q.name ps s.2 (below_by Equal q.name p ps e refl s.1) in
    same_first p q ps qs s t e ∙ rw (e, turned_round p.name q.name Equal e, behind.none, behind.all) refl
part_by Greater p q ps qs e s t h =
    let behind : AllAbove q.name ps = all_above q.name ps s.2 (below_by Greater q.name p ps e refl s.1) in
    greater_first p q ps qs s t e ∙ rw (e, turned_round p.name q.name Greater e, behind.none, behind.all) refl

parts : (ps qs : List Pair) (q : Pair) → IsLabelSet ps → IsLabelSet (q ∷ qs) → union_labels ps (q ∷ qs) ≡ filter (is_below q.name) ps ++ (q ∷ union_labels (filter (is_above q.name) ps) qs)
parts [] qs q s t = into_none (q ∷ qs) t ∙ ap (λ u. q ∷ u) (sym (into_none qs t.2))
parts (p ∷ ps) qs q s t = part_by (slice_cmp nat_cmp p.name q.name) p q ps qs refl s t (parts ps qs q s.2 t)

pub rest_is_set : (i : ℕ) (ps : List Pair) → IsLabelSet ps → IsLabelSet (drop i ps)
rest_is_set zero ps s = s
rest_is_set (suc i) [] s = tt
rest_is_set (suc i) (p ∷ ps) s = rest_is_set i ps s.2

-- a step of the loop that merges
regrouped : (done below : List Pair) (q : Pair) (rest : List Pair) → ((done ++ below) ++ q ∷ []) ++ rest ≡ done ++ (below ++ q ∷ rest)
regrouped done below q rest = simp append_assoc

pub one_merged : (own over done below above new whole : List Pair) (i : ℕ) (q : Pair) → IsLabelSet own → IsLabelSet over → i < length over → q ≡ get_or over i q → below ≡ filter (is_below q.name) own → above ≡ filter (is_above q.name) own →
    new ≡ (done ++ below) ++ q ∷ [] → done ++ union_labels own (drop i over) ≡ whole → new ++ union_labels above (drop (i + 1) over) ≡ whole
one_merged own over done below above new whole i q s t lt is b a n h =
    let here : drop i over ≡ q ∷ drop (i + 1) over = drop_more over i q lt ∙ ap (λ x. x ∷ drop (i + 1) over) (sym is) in
    let set : IsLabelSet (q ∷ drop (i + 1) over) = subst (λ (x : List Pair). IsLabelSet x) here (rest_is_set i over t) in
    rw (n, b, a) (regrouped done (filter (is_below q.name) own) q (union_labels (filter (is_above q.name) own) (drop (i + 1) over)) ∙ (ap (λ u. done ++ u) (sym (parts own (drop (i + 1) over) q s set)) ∙ (ap (λ u. done ++ union_labels own u) (sym here) ∙ h)))

pub all_merged : (own over done whole : List Pair) (i : ℕ) → length over ≤ i → done ++ union_labels own (drop i over) ≡ whole → done ++ own ≡ whole
all_merged own over done whole i le h = ap (λ u. done ++ union_labels own u) (sym (drop_all i over le)) ∙ h
