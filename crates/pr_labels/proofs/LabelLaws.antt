-- Laws of the operations: what a set has of a name after each, and that each gives a label set.
use Rattle.std.proofs.Common.{◌≡◌, ◌≢◌, ◌||◌, ℕ, List, [], ◌∷◌, ◌++◌, true, false, Bool, cond, filter, fold, not, sym, ◌∙◌, ap, refl, Option, Some, None}
use Rattle.std.specs.List.{list_any}
use Rattle.std.specs.Option.{option_or}
use Rattle.std.specs.Cmp.Lexicographic.{slice_cmp, texts_ties, bytes_decides}
use Rattle.std.specs.Ordering.{nat_cmp, is_lt, is_eq, ordering_reverse}
use Rattle.std.specs.Str.{bytes_eq}
use Rattle.std.specs.declared.cmp.Ordering.{Ordering}
use Rattle.std.specs.declared.cmp.Ordering.TheVariants.{Less, Equal, Greater}
use Rattle.std.proofs.lemmas.Cmp.{nat_list_cmp_total, nat_list_eq_equiv}
use Rattle.pr_labels.specs.declared.fault.LabelFault.{LabelFault}
use Rattle.pr_labels.specs.declared.pair.Pair.{Pair}
use Rattle.pr_labels.specs.Edits.{fault_after, first_fault, is_above, is_below, is_listed, key_labels, label_of, labels_of, listed_labels, pair_fault, set_label, set_pair, union_labels, unlisted_labels, value_if_any, without_name}
use Rattle.pr_labels.specs.LabelSet.{IsLabelSet, IsBelowFirst, has_name, metric_label, value_of}
use Rattle.pr_labels.specs.Names.{is_label_name}
use Rattle.pr_labels.proofs.LabelSets.{filter_is_set}
use Rattle.pr_labels.proofs.Making.{named_pair}
use Rattle.pr_labels.proofs.Putting.{all_above, set_is_set}

pub same_names : (a b : List ℕ) → bytes_eq a b ≡ true → a ≡ b
same_names a b h = (bytes_decides a b).0 h

pub alike : (a : List ℕ) → bytes_eq a a ≡ true
alike a = (bytes_decides a a).1 refl

pub value_hit : (p : Pair) (ps : List Pair) (other : List ℕ) → bytes_eq p.name other ≡ true → value_of (p ∷ ps) other ≡ Some p.value
value_hit p ps other tie = rw tie refl

pub value_miss : (p : Pair) (ps : List Pair) (other : List ℕ) → bytes_eq p.name other ≡ false → value_of (p ∷ ps) other ≡ value_of ps other
value_miss p ps other tie = rw tie refl

-- what a filter keeps of a name, where it asks of the name alone
filter_step : (e t b : Bool) (p : Pair) (ps fs : List Pair) (other : List ℕ) → bytes_eq p.name other ≡ e → (e ≡ true → t ≡ b) → value_of fs other ≡ cond b (value_of ps other) None → value_of (cond t (p ∷ fs) fs) other ≡ cond b (value_of (p ∷ ps) other) None
filter_step true true true p ps fs other tie k h = value_hit p fs other tie ∙ sym (value_hit p ps other tie)
filter_step true false false p ps fs other tie k h = h
filter_step true true false p ps fs other tie k h = let f = k refl in cc
filter_step true false true p ps fs other tie k h = let f = k refl in cc
filter_step false true true p ps fs other tie k h = value_miss p fs other tie ∙ h ∙ sym (value_miss p ps other tie)
filter_step false true false p ps fs other tie k h = value_miss p fs other tie ∙ h
filter_step false false true p ps fs other tie k h = h ∙ sym (value_miss p ps other tie)
filter_step false false false p ps fs other tie k h = h

abbrev no_value : Option (List ℕ)
no_value = None

nothing_either : (b : Bool) → no_value ≡ cond b no_value no_value
nothing_either true = refl
nothing_either false = refl

value_filter : (test : Pair → Bool) (b : Bool) (other : List ℕ) → ((p : Pair) → bytes_eq p.name other ≡ true → test p ≡ b) → (ls : List Pair) → value_of (filter test ls) other ≡ cond b (value_of ls other) None
value_filter test b other asks [] = nothing_either b
value_filter test b other asks (p ∷ ps) =
    filter_step (bytes_eq p.name other) (test p) b p ps (filter test ps) other refl (asks p) (value_filter test b other asks ps)

of_name : (f : List ℕ → Bool) (other : List ℕ) (p : Pair) → bytes_eq p.name other ≡ true → f p.name ≡ f other
of_name f other p h = ap f (same_names p.name other h)

turned : (c : Bool) (v : Option (List ℕ)) → cond (not c) v None ≡ cond c None v
turned true v = refl
turned false v = refl

pub value_remove : (ls : List Pair) (name other : List ℕ) → value_of (without_name ls name) other ≡ cond (bytes_eq name other) None (value_of ls other)
value_remove ls name other =
    value_filter (λ p. not (has_name name p)) (not (bytes_eq other name)) other (of_name (λ n. not (bytes_eq n name)) other) ls ∙ turned (bytes_eq other name) (value_of ls other) ∙ ap (λ t. cond t None (value_of ls other)) (nat_list_eq_equiv.symm other name)

pub value_keep : (ls : List Pair) (names : List (List ℕ)) (other : List ℕ) → value_of (listed_labels ls names) other ≡ cond (list_any (bytes_eq other) names) (value_of ls other) None
value_keep ls names other =
    value_filter (is_listed names) (list_any (bytes_eq other) names) other (of_name (λ n. list_any (bytes_eq n) names) other) ls

pub value_without : (ls : List Pair) (names : List (List ℕ)) (other : List ℕ) → value_of (unlisted_labels ls names) other ≡ cond (list_any (bytes_eq other) names) None (value_of ls other)
value_without ls names other =
    value_filter (λ p. not (is_listed names p)) (not (list_any (bytes_eq other) names)) other (of_name (λ n. not (list_any (bytes_eq n) names)) other) ls ∙ turned (list_any (bytes_eq other) names) (value_of ls other)

pub value_key_on : (ls : List Pair) (names : List (List ℕ)) (other : List ℕ) → value_of (key_labels true ls names) other ≡ cond (list_any (bytes_eq other) names) (value_of ls other) None
value_key_on ls names other = value_keep ls names other

either_none : (a b : Bool) (v : Option (List ℕ)) → cond a None (cond b None v) ≡ cond (a || b) None v
either_none true b v = refl
either_none false b v = refl

pub value_key_without : (ls : List Pair) (names : List (List ℕ)) (other : List ℕ) → value_of (key_labels false ls names) other ≡ cond (bytes_eq metric_label other || list_any (bytes_eq other) names) None (value_of ls other)
value_key_without ls names other =
    value_remove (unlisted_labels ls names) metric_label other ∙ ap (λ t. cond (bytes_eq metric_label other) None t) (value_without ls names other) ∙ either_none (bytes_eq metric_label other) (list_any (bytes_eq other) names) (value_of ls other)

append_step : (e : Bool) (p : Pair) (xs ys : List Pair) (other : List ℕ) → bytes_eq p.name other ≡ e → value_of (xs ++ ys) other ≡ option_or (value_of xs other) (value_of ys other) → value_of (p ∷ (xs ++ ys)) other ≡ option_or (value_of (p ∷ xs) other) (value_of ys other)
append_step true p xs ys other tie h = rw tie refl
append_step false p xs ys other tie h = rw tie h

value_append : (xs ys : List Pair) (other : List ℕ) → value_of (xs ++ ys) other ≡ option_or (value_of xs other) (value_of ys other)
value_append [] ys other = refl
value_append (p ∷ xs) ys other =
    append_step (bytes_eq p.name other) p xs ys other refl (value_append xs ys other)

value_label : (name value other : List ℕ) → value_of (label_of name value) other ≡ cond (bytes_eq name other) (value_if_any value) None
value_label name [] other = nothing_either (bytes_eq name other)
value_label name (b ∷ bs) other = by_test (bytes_eq name other) refl where
  by_test : (e : Bool) → bytes_eq name other ≡ e → value_of (label_of name (b ∷ bs)) other ≡ cond (bytes_eq name other) (Some (b ∷ bs)) None
  by_test true tie = rw tie refl
  by_test false tie = rw tie refl

pub or_nothing : (v : Option (List ℕ)) → option_or v None ≡ v
or_nothing None = refl
or_nothing (Some x) = refl

set_step : (o r : Ordering) (e : Bool) (v new : Option (List ℕ)) → r ≡ ordering_reverse o → e ≡ is_eq r → option_or (cond (is_lt o) v None) (option_or (cond e new None) (cond (is_lt r) v None)) ≡ cond e new v
set_step Less r e v new k h = rw (h, k) (or_nothing v)
set_step Equal r e v new k h = rw (h, k) (or_nothing new)
set_step Greater r e v new k h = rw (h, k) refl

pub value_set : (ls : List Pair) (name value other : List ℕ) → value_of (set_label ls name value) other ≡ cond (bytes_eq name other) (value_if_any value) (value_of ls other)
value_set ls name value other =
    let below : value_of (filter (is_below name) ls) other ≡ cond (is_lt (slice_cmp nat_cmp other name)) (value_of ls other) None = value_filter (is_below name) (is_lt (slice_cmp nat_cmp other name)) other (of_name (λ n. is_lt (slice_cmp nat_cmp n name)) other) ls in
    let above : value_of (filter (is_above name) ls) other ≡ cond (is_lt (slice_cmp nat_cmp name other)) (value_of ls other) None = value_filter (is_above name) (is_lt (slice_cmp nat_cmp name other)) other (of_name (λ n. is_lt (slice_cmp nat_cmp name n)) other) ls in
    value_append (filter (is_below name) ls) (label_of name value ++ filter (is_above name) ls) other ∙ ap (λ t. option_or (value_of (filter (is_below name) ls) other) t) (value_append (label_of name value) (filter (is_above name) ls) other) ∙ (λ i. option_or (below i) (option_or (value_label name value other i) (above i))) ∙ set_step (slice_cmp nat_cmp other name) (slice_cmp nat_cmp name other) (bytes_eq name other) (value_of ls other) (value_if_any value) (nat_list_cmp_total.antisymm name other) (texts_ties name other)

-- no pair above a name has it
pub none_above : (name : List ℕ) (ps : List Pair) → IsLabelSet ps → IsBelowFirst name ps → value_of ps name ≡ None
none_above name ps s b =
    ap (λ t. value_of t name) (sym (all_above name ps s b).others) ∙ value_remove ps name name ∙ ap (λ t. cond t None (value_of ps name)) (alike name)

any_value : (value : List ℕ) → value ≢ [] → value_if_any value ≡ Some value
any_value [] h = absurd (h refl)
any_value (b ∷ bs) h = refl

union_step : (e : Bool) (p : Pair) (ps : List Pair) (other : List ℕ) (v : Option (List ℕ)) → bytes_eq p.name other ≡ e → (e ≡ true → value_of ps other ≡ None) → value_if_any p.value ≡ Some p.value → option_or (value_of ps other) (cond e (value_if_any p.value) v) ≡ option_or (value_of (p ∷ ps) other) v
union_step true p ps other v tie none any = rw (none refl, any, tie) refl
union_step false p ps other v tie none any = rw tie refl

pub value_union : (ls over : List Pair) (other : List ℕ) → IsLabelSet over → value_of (union_labels ls over) other ≡ option_or (value_of over other) (value_of ls other)
value_union ls [] other s = refl
value_union ls (p ∷ ps) other s =
    value_union (set_pair ls p) ps other s.2 ∙ ap (λ t. option_or (value_of ps other) t) (value_set ls p.name p.value other) ∙ union_step (bytes_eq p.name other) p ps other (value_of ls other) refl (λ h. ap (λ n. value_of ps n) (sym (same_names p.name other h)) ∙ none_above p.name ps s.2 s.1) (any_value p.value s.0.value)

pub set_stays : (ls : List Pair) (name value : List ℕ) → is_label_name name ≡ true → IsLabelSet ls → IsLabelSet (set_label ls name value)
set_stays ls name value k s = set_is_set name value ls k s

pub remove_stays : (ls : List Pair) (name : List ℕ) → IsLabelSet ls → IsLabelSet (without_name ls name)
remove_stays ls name s = filter_is_set (λ p. not (has_name name p)) ls s

pub keep_stays : (ls : List Pair) (names : List (List ℕ)) → IsLabelSet ls → IsLabelSet (listed_labels ls names)
keep_stays ls names s = filter_is_set (is_listed names) ls s

pub without_stays : (ls : List Pair) (names : List (List ℕ)) → IsLabelSet ls → IsLabelSet (unlisted_labels ls names)
without_stays ls names s = filter_is_set (λ p. not (is_listed names p)) ls s

pub key_stays : (on : Bool) (ls : List Pair) (names : List (List ℕ)) → IsLabelSet ls → IsLabelSet (key_labels on ls names)
key_stays true ls names s = keep_stays ls names s
key_stays false ls names s = remove_stays (unlisted_labels ls names) metric_label (without_stays ls names s)

pub union_stays : (ls over : List Pair) → IsLabelSet ls → IsLabelSet over → IsLabelSet (union_labels ls over)
union_stays ls [] s t = s
union_stays ls (p ∷ ps) s t = union_stays (set_pair ls p) ps (set_is_set p.name p.value ls t.0.name s) t.2

pub first_none : (a b : Option LabelFault) → option_or a b ≡ None → (a ≡ None) × (b ≡ None)
first_none None b h = (refl, h)
first_none (Some x) b h = cc

made_stays : (before acc pairs : List Pair) → fault_after before pairs ≡ None → IsLabelSet acc → IsLabelSet (fold set_pair acc pairs)
made_stays before acc [] f s = s
made_stays before acc (p ∷ ps) f s =
    let g = first_none (pair_fault before p) (fault_after (before ++ p ∷ []) ps) f in
    made_stays (before ++ p ∷ []) (set_pair acc p) ps g.1 (set_is_set p.name p.value acc (named_pair before p g.0) s)

pub made_is_set : (pairs : List Pair) → first_fault pairs ≡ None → IsLabelSet (labels_of pairs)
made_is_set pairs f = made_stays [] [] pairs f tt
