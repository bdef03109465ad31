-- The set that pairs make has exactly the pairs whose values are not empty.
use Rattle.std.proofs.Common.{◌≡◌, ℕ, List, [], ◌∷◌, ◌++◌, true, false, Bool, cond, ◌||◌, filter, fold, sym, ◌∙◌, refl, Some, None, is_some, append_assoc, append-nil}
use Rattle.std.specs.List.{list_any}
use Rattle.std.specs.List.Sorted.{IsPermutation}
use Rattle.std.specs.Cmp.Lexicographic.{slice_cmp, texts_ties}
use Rattle.std.specs.Ordering.{nat_cmp, is_eq}
use Rattle.std.specs.Str.{bytes_eq}
use Rattle.std.specs.declared.cmp.Ordering.{Ordering}
use Rattle.std.specs.declared.cmp.Ordering.TheVariants.{Less, Equal, Greater}
use Rattle.std.proofs.lemmas.List.Sorted.{IsPermutation-refl, IsPermutation-cons, IsPermutation-middle, IsPermutation-trans, IsPermutation-append_comm, IsPermutation-append_left, IsPermutation-append_right, list_any-IsPermutation}
use Rattle.pr_labels.specs.declared.fault.LabelFault.{LabelFault}
use Rattle.pr_labels.specs.declared.pair.Pair.{Pair}
use Rattle.pr_labels.specs.Edits.{fault_after, first_fault, has_value, label_of, labels_of, pair_fault, set_label, set_pair, value_if_any}
use Rattle.pr_labels.specs.LabelSet.{IsLabelSet, has_name, pair_of}
use Rattle.pr_labels.specs.Names.{is_label_name}
use Rattle.pr_labels.proofs.LabelLaws.{first_none}
use Rattle.pr_labels.proofs.Making.{named_pair}
use Rattle.pr_labels.proofs.Putting.{by_order, put_in, set_is_put, set_is_set}

neither : (a b : Bool) → (a || b) ≡ false → (a ≡ false) × (b ≡ false)
neither true b h = cc
neither false b h = (refl, h)

put_step : (o : Ordering) (e : Bool) (p : Pair) (ps new rest : List Pair) → e ≡ is_eq o → e ≡ false → IsPermutation (new ++ ps) rest → IsPermutation (new ++ p ∷ ps) (by_order o p ps new rest)
put_step Less e p ps new rest tie apart h =
    IsPermutation-trans (new ++ p ∷ ps) (p ∷ (new ++ ps)) (p ∷ rest) (IsPermutation-middle new p ps) (IsPermutation-cons p (new ++ ps) rest h)
put_step Equal e p ps new rest tie apart h = let f : true ≡ false = sym tie ∙ apart in cc
put_step Greater e p ps new rest tie apart h = IsPermutation-refl (new ++ p ∷ ps)

same_list : (xs ys : List Pair) → xs ≡ ys → IsPermutation xs ys
same_list xs ys e = rw e (IsPermutation-refl ys)

-- what is put in of a name that the pairs have not is added
put_adds : (name : List ℕ) (new ps : List Pair) → list_any (has_name name) ps ≡ false → IsPermutation (new ++ ps) (put_in name new ps)
put_adds name new [] h = same_list (new ++ []) new (append-nil new)
put_adds name new (p ∷ ps) h =
    let n = neither (bytes_eq p.name name) (list_any (has_name name) ps) h in
    put_step (slice_cmp nat_cmp p.name name) (bytes_eq p.name name) p ps new (put_in name new ps) (texts_ties p.name name) n.0 (put_adds name new ps n.1)

set_adds : (name value : List ℕ) (ps : List Pair) → IsLabelSet ps → list_any (has_name name) ps ≡ false → IsPermutation (label_of name value ++ ps) (set_label ps name value)
set_adds name value ps s h =
    rw (set_is_put name (label_of name value) ps s) (put_adds name (label_of name value) ps h)

-- the labels among the pairs
first_label : (name value : List ℕ) (rest : List Pair) → cond (is_some (value_if_any value)) (pair_of name value ∷ rest) rest ≡ label_of name value ++ rest
first_label name [] rest = refl
first_label name (b ∷ bs) rest = refl

any_append : (test : Pair → Bool) (xs ys : List Pair) → list_any test xs ≡ false → list_any test ys ≡ false → list_any test (xs ++ ys) ≡ false
any_append test [] ys h k = k
any_append test (x ∷ xs) ys h k =
    let n = neither (test x) (list_any test xs) h in
    rw n.0 (any_append test xs ys n.1 k)

none_before : (test : Pair → Bool) (xs ys : List Pair) → list_any test (xs ++ ys) ≡ false → (list_any test xs ≡ false) × (list_any test ys ≡ false)
none_before test [] ys h = (refl, h)
none_before test (x ∷ xs) ys h =
    let n = neither (test x) (list_any test (xs ++ ys)) h in
    let m = none_before test xs ys n.1 in
    (rw n.0 m.0, m.1)

label_apart : (other name value : List ℕ) → bytes_eq name other ≡ false → list_any (has_name other) (label_of name value) ≡ false
label_apart other name [] h = refl
label_apart other name (b ∷ bs) h = rw h refl

pub new_name : (known again : Bool) (bad twice : LabelFault) → cond known (cond again (Some twice) None) (Some bad) ≡ None → again ≡ false
new_name true true bad twice h = cc
new_name true false bad twice h = refl
new_name false again bad twice h = cc

-- the names of a set that was made are among the names of the pairs before
abbrev NamesAmong : List Pair → List Pair → Type 0
NamesAmong before acc = (name : List ℕ) → list_any (has_name name) before ≡ false → list_any (has_name name) acc ≡ false

among_next : (before acc : List Pair) (p : Pair) → IsPermutation (label_of p.name p.value ++ acc) (set_pair acc p) → NamesAmong before acc → NamesAmong (before ++ p ∷ []) (set_pair acc p)
among_next before acc p permuted among = λ name h.
    let n = none_before (has_name name) before (p ∷ []) h in
    let m = neither (bytes_eq p.name name) false n.1 in
    sym (list_any-IsPermutation (has_name name) (label_of p.name p.value ++ acc) (set_pair acc p) permuted) ∙ any_append (has_name name) (label_of p.name p.value) acc (label_apart name p.name p.value m.0) (among name n.0)

-- L and R stand before acc, or R before what L adds to acc
regroup : (l r acc next : List Pair) → IsPermutation (l ++ acc) next → IsPermutation ((l ++ r) ++ acc) (r ++ next)
regroup l r acc next h =
    IsPermutation-trans ((l ++ r) ++ acc) ((r ++ l) ++ acc) (r ++ next) (IsPermutation-append_left acc (l ++ r) (r ++ l) (IsPermutation-append_comm l r)) (rw (append_assoc r l acc) (IsPermutation-append_right r (l ++ acc) next h))

made : (before acc pairs : List Pair) → IsLabelSet acc → NamesAmong before acc → fault_after before pairs ≡ None → IsPermutation (filter has_value pairs ++ acc) (fold set_pair acc pairs)
made before acc [] s among f = IsPermutation-refl acc
made before acc (p ∷ ps) s among f =
    let g = first_none (pair_fault before p) (fault_after (before ++ p ∷ []) ps) f in
    let apart : list_any (has_name p.name) before ≡ false = new_name (is_label_name p.name) (list_any (has_name p.name) before) _ _ g.0 in
    let adds : IsPermutation (label_of p.name p.value ++ acc) (set_pair acc p) = set_adds p.name p.value acc s (among p.name apart) in
    IsPermutation-trans (filter has_value (p ∷ ps) ++ acc) (filter has_value ps ++ set_pair acc p) (fold set_pair acc (p ∷ ps)) (rw (first_label p.name p.value (filter has_value ps)) (regroup (label_of p.name p.value) (filter has_value ps) acc (set_pair acc p) adds)) (made (before ++ p ∷ []) (set_pair acc p) ps (set_is_set p.name p.value acc (named_pair before p g.0) s) (among_next before acc p adds among) g.1)

pub made_of_all : (pairs : List Pair) → first_fault pairs ≡ None → IsPermutation (filter has_value pairs) (labels_of pairs)
made_of_all pairs f =
    rw (← append-nil (filter has_value pairs)) (made [] [] pairs tt (λ name h. refl) f)
