-- A label set is known by what it has of each name: so the pairs of a set, or with the metric's
-- name first, make the set again.
use Rattle.std.proofs.Common.{◌≡◌, ℕ, List, [], ◌∷◌, ◌++◌, Option, Some, None, Bool, true, false, cond, not, ◌||◌, refl, ap, sym, ◌∙◌}
use Rattle.std.specs.List.{list_any}
use Rattle.std.specs.Option.{option_or}
use Rattle.std.specs.Cmp.Lexicographic.{slice_cmp, texts_ties}
use Rattle.std.specs.Ordering.{nat_cmp, is_eq, ordering_reverse}
use Rattle.std.specs.Str.{bytes_eq}
use Rattle.std.specs.declared.cmp.Ordering.{Ordering}
use Rattle.std.specs.declared.cmp.Ordering.TheVariants.{Less, Equal, Greater}
use Rattle.std.proofs.lemmas.Cmp.{nat_list_cmp_total}
use Rattle.std.proofs.lemmas.List.Folds.{list_any-append}
use Rattle.pr_labels.specs.declared.pair.Pair.{Pair}
use Rattle.pr_labels.specs.Edits.{fault_after, labels_of, set_label, union_labels, value_if_any}
use Rattle.pr_labels.specs.LabelSet.{IsLabelSet, IsBelowFirst, has_name, metric_label, pair_of, value_of}
use Rattle.pr_labels.specs.Names.{is_metric_name}
use Rattle.pr_labels.specs.SeriesText.{unnamed}
use Rattle.pr_labels.proofs.LabelLaws.{alike, same_names, value_hit, value_miss, none_above, value_remove, value_set, value_union, or_nothing, set_stays, remove_stays, union_stays}
use Rattle.pr_labels.proofs.LabelSets.{below_next}

-- what the first pair has of its name
first_value : (p : Pair) (ps : List Pair) → value_of (p ∷ ps) p.name ≡ Some p.value
first_value p ps = value_hit p ps p.name (alike p.name)

none_some : {X : Type 0} (x : X) (o : Option X) → o ≡ None → o ≡ Some x → ⊥
none_some x o h k = cc

-- sets with the same values begin with the same name
first_order : (p q : Pair) (ps qs : List Pair) (o : Ordering) → slice_cmp nat_cmp p.name q.name ≡ o → IsLabelSet (p ∷ ps) → IsLabelSet (q ∷ qs) →
    ((name : List ℕ) → value_of (p ∷ ps) name ≡ value_of (q ∷ qs) name) → p.name ≡ q.name
first_order p q ps qs Less e s t h = absurd (none_some p.value (value_of (p ∷ ps) p.name) (h p.name ∙ none_above p.name (q ∷ qs) t e) (first_value p ps))
first_order p q ps qs Equal e s t h = same_names p.name q.name (texts_ties p.name q.name ∙ ap is_eq e)
first_order p q ps qs Greater e s t h =
    absurd (none_some q.value (value_of (q ∷ qs) q.name) (sym (h q.name) ∙ none_above q.name (p ∷ ps) s (nat_list_cmp_total.antisymm q.name p.name ∙ ap ordering_reverse e)) (first_value q qs))

some_same : {X : Type 0} (x y : X) → Some x ≡ Some y → x ≡ y
some_same x y e = cc

-- what the pairs after the first have of a name
rest_value : (p q : Pair) (ps qs : List Pair) (name : List ℕ) (e : Bool) → bytes_eq p.name name ≡ e → p.name ≡ q.name → IsLabelSet (p ∷ ps) → IsLabelSet (q ∷ qs) → value_of (p ∷ ps) name ≡ value_of (q ∷ qs) name →
    value_of ps name ≡ value_of qs name
rest_value p q ps qs name true tie same s t h =
    ap (value_of ps) (sym (same_names p.name name tie)) ∙ (none_above p.name ps s.2 s.1 ∙ (sym (none_above q.name qs t.2 t.1) ∙ ap (value_of qs) (sym same ∙ same_names p.name name tie)))
rest_value p q ps qs name false tie same s t h =
    sym (value_miss p ps name tie) ∙ (h ∙ value_miss q qs name (ap (λ n. bytes_eq n name) (sym same) ∙ tie))

same_pair : (p q : Pair) → p.name ≡ q.name → p.value ≡ q.value → p ≡ q
same_pair p q e h = λ i. pair_of (e i) (h i)

pub same_values : (ps qs : List Pair) → IsLabelSet ps → IsLabelSet qs → ((name : List ℕ) → value_of ps name ≡ value_of qs name) → ps ≡ qs
same_values [] [] s t h = refl
same_values [] (q ∷ qs) s t h = absurd (none_some q.value (value_of (q ∷ qs) q.name) (sym (h q.name)) (first_value q qs))
same_values (p ∷ ps) [] s t h = absurd (none_some p.value (value_of (p ∷ ps) p.name) (h p.name) (first_value p ps))
same_values (p ∷ ps) (q ∷ qs) s t h =
    let name : p.name ≡ q.name = first_order p q ps qs (slice_cmp nat_cmp p.name q.name) refl s t h in
    let value : Some p.value ≡ Some q.value = sym (first_value p ps) ∙ (h p.name ∙ (ap (value_of (q ∷ qs)) name ∙ first_value q qs)) in
    let rest : ps ≡ qs = same_values ps qs s.2 t.2 (λ n. rest_value p q ps qs n (bytes_eq p.name n) refl name s t (h n)) in
    λ i. same_pair p q name (some_same p.value q.value value) i ∷ rest i

-- the pairs of a set make the set
pub set_again : (ls : List Pair) → IsLabelSet ls → ls ≡ labels_of ls
set_again ls s = same_values ls (labels_of ls) s (union_stays [] ls tt s) (λ name. sym (or_nothing (value_of ls name)) ∙ sym (value_union [] ls name s))

any_name : (name : List ℕ) → is_metric_name name ≡ true → value_if_any name ≡ Some name
any_name [] h = cc
any_name (b ∷ bs) h = refl

-- and so they do with the metric's name first
pub named_again : (ls : List Pair) (name : List ℕ) → IsLabelSet ls → value_of ls metric_label ≡ Some name → is_metric_name name ≡ true → ls ≡ labels_of (pair_of metric_label name ∷ unnamed ls)
named_again ls name s e m =
    same_values ls (union_labels (set_label [] metric_label name) (unnamed ls)) s (union_stays (set_label [] metric_label name) (unnamed ls) (set_stays [] metric_label name refl tt) (remove_stays ls metric_label s))
    (λ other. sym (value_union (set_label [] metric_label name) (unnamed ls) other (remove_stays ls metric_label s) ∙ ((λ i. option_or (value_remove ls metric_label other i) (value_set [] metric_label name other i)) ∙ chosen other (bytes_eq metric_label other) refl)))
  where
    chosen : (other : List ℕ) (test : Bool) → bytes_eq metric_label other ≡ test → option_or (cond test None (value_of ls other)) (cond test (value_if_any name) None) ≡ value_of ls other
    chosen other true tie = any_name name m ∙ (sym e ∙ ap (value_of ls) (same_names metric_label other tie))
    chosen other false tie = or_nothing (value_of ls other)

-- no pair above a name has it
apart_above : (o : Ordering) (a b : List ℕ) → slice_cmp nat_cmp a b ≡ o → o ≡ Less → bytes_eq b a ≡ false
apart_above Less a b e h = texts_ties b a ∙ ap is_eq (nat_list_cmp_total.antisymm b a ∙ ap ordering_reverse e)
apart_above Equal a b e h = cc
apart_above Greater a b e h = cc

no_name_above : (name : List ℕ) (ps : List Pair) → IsLabelSet ps → IsBelowFirst name ps → list_any (has_name name) ps ≡ false
no_name_above name [] s b = refl
no_name_above name (p ∷ ps) s b = rw (apart_above Less name p.name b refl) (no_name_above name ps s.2 (below_next name p ps b s.1))

-- Names that pairs have, the pairs before have not.
abbrev StandApart : List Pair → List Pair → Type 0
StandApart before ps = (name : List ℕ) → list_any (has_name name) ps ≡ true → list_any (has_name name) before ≡ false

either_side : (a b : Bool) → b ≡ true → (a || b) ≡ true
either_side true b h = refl
either_side false b h = h

apart_name : (test : Bool) (p : Pair) (ps : List Pair) (name : List ℕ) → IsLabelSet (p ∷ ps) → bytes_eq p.name name ≡ test → list_any (has_name name) ps ≡ true → test ≡ false
apart_name true p ps name s tie h =
    let none : list_any (has_name name) ps ≡ false = ap (λ n. list_any (has_name n) ps) (sym (same_names p.name name tie)) ∙ no_name_above p.name ps s.2 s.1 in cc
apart_name false p ps name s tie h = refl

apart_next : (before : List Pair) (p : Pair) (ps : List Pair) → IsLabelSet (p ∷ ps) → StandApart before (p ∷ ps) → StandApart (before ++ p ∷ []) ps
apart_next before p ps s apart name h =
    let far : list_any (has_name name) before ≡ false = apart name (either_side (bytes_eq p.name name) (list_any (has_name name) ps) h) in
    let other : bytes_eq p.name name ≡ false = apart_name (bytes_eq p.name name) p ps name s refl h in
    list_any-append (has_name name) before (p ∷ []) ∙ rw (far, other) refl

-- the pairs of a set are faultless after pairs with other names
pub faultless_after : (before ps : List Pair) → IsLabelSet ps → StandApart before ps → fault_after before ps ≡ None
faultless_after before [] s apart = refl
faultless_after before (p ∷ ps) s apart =
    let far : list_any (has_name p.name) before ≡ false = apart p.name (ap (λ t. t || list_any (has_name p.name) ps) (alike p.name)) in
    rw (s.0.name, far) (faultless_after (before ++ p ∷ []) ps s.2 (apart_next before p ps s apart))

pub faultless : (ls : List Pair) → IsLabelSet ls → fault_after [] ls ≡ None
faultless ls s = faultless_after [] ls s (λ name h. refl)

step_unnamed : (test : Bool) (p : Pair) (us : List Pair) → bytes_eq p.name metric_label ≡ test → list_any (has_name metric_label) us ≡ false → list_any (has_name metric_label) (cond (not test) (p ∷ us) us) ≡ false
step_unnamed true p us tie h = h
step_unnamed false p us tie h = rw tie h

none_unnamed : (ls : List Pair) → list_any (has_name metric_label) (unnamed ls) ≡ false
none_unnamed [] = refl
none_unnamed (p ∷ ls) = step_unnamed (bytes_eq p.name metric_label) p (unnamed ls) refl (none_unnamed ls)

pub faultless_named : (ls : List Pair) (value : List ℕ) → IsLabelSet ls → fault_after (pair_of metric_label value ∷ []) (unnamed ls) ≡ None
faultless_named ls value s = faultless_after (pair_of metric_label value ∷ []) (unnamed ls) (remove_stays ls metric_label s) (λ name h. other name (bytes_eq metric_label name) refl h)
  where
    other : (name : List ℕ) (test : Bool) → bytes_eq metric_label name ≡ test → list_any (has_name name) (unnamed ls) ≡ true → (test || false) ≡ false
    other name true tie h = let none : list_any (has_name name) (unnamed ls) ≡ false = ap (λ n. list_any (has_name n) (unnamed ls)) (sym (same_names metric_label name tie)) ∙ none_unnamed ls in cc
    other name false tie h = refl
