-- A pair that is put in at its place, by recursion on the list, and what `set` gives.
use Rattle.std.proofs.Common.{◌≡◌, ◌≢◌, ℕ, suc, List, [], ◌∷◌, ◌++◌, true, false, Bool, cond, filter, not, arith, sym, ◌∙◌, ap, refl, length, append-nil, ◌==◌, Result, Ok, Err, OnOk, OnErr}
use Rattle.std.specs.Cmp.Lexicographic.{slice_cmp, texts_ties}
use Rattle.std.specs.Ordering.{nat_cmp, is_lt, is_eq, ordering_reverse}
use Rattle.std.specs.Str.{bytes_eq}
use Rattle.std.specs.declared.cmp.Ordering.{Ordering}
use Rattle.std.specs.declared.cmp.Ordering.TheVariants.{Less, Equal, Greater}
use Rattle.std.proofs.lemmas.Bool.Decides.{nat_tests}
use Rattle.std.proofs.lemmas.Cmp.{nat_list_cmp_total}
use Rattle.pr_labels.specs.declared.pair.Pair.{Pair}
use Rattle.pr_labels.specs.Edits.{is_above, is_below, label_of, set_label, set_pair, without_name}
use Rattle.pr_labels.specs.Names.{is_label_name}
use Rattle.pr_labels.specs.LabelSet.{IsLabel, IsLabelSet, IsBelowFirst, pair_of}
use Rattle.pr_labels.proofs.LabelSets.{below_next}

-- the list with the new pairs where the name's place is, instead of the pair with the name
abbrev pub by_order : Ordering → Pair → List Pair → List Pair → List Pair → List Pair
by_order Less p ps new rest = p ∷ rest
by_order Equal p ps new rest = new ++ ps
by_order Greater p ps new rest = new ++ p ∷ ps

abbrev pub put_in : List ℕ → List Pair → List Pair → List Pair
put_in name new [] = new
put_in name new (p ∷ ps) = by_order (slice_cmp nat_cmp p.name name) p ps new (put_in name new ps)

-- what the filters give of pairs that are all above the name
pub record AllAbove (name : List ℕ) (ps : List Pair) : Type 0 where
  pub none : filter (is_below name) ps ≡ []
  pub all : filter (is_above name) ps ≡ ps
  pub others : without_name ps name ≡ ps

above_step : (o r : Ordering) (name : List ℕ) (q : Pair) (qs below above other : List Pair) → o ≡ ordering_reverse r → r ≡ Less → bytes_eq q.name name ≡ is_eq o → below ≡ [] → above ≡ qs → other ≡ qs → (cond (is_lt o) (q ∷ below) below ≡ []) × (cond (is_lt r) (q ∷ above) above ≡ q ∷ qs) × (cond (not (bytes_eq q.name name)) (q ∷ other) other ≡ q ∷ qs)
above_step o Less name q qs below above other e l tie b a w = rw (tie, e) (b, ap (λ t. q ∷ t) a, ap (λ t. q ∷ t) w)
above_step o Equal name q qs below above other e l tie b a w = cc
above_step o Greater name q qs below above other e l tie b a w = cc

pub all_above : (name : List ℕ) (ps : List Pair) → IsLabelSet ps → IsBelowFirst name ps → AllAbove name ps
all_above name [] s b = record { none = refl; all = refl; others = refl }
all_above name (q ∷ qs) s b =
    let rest : AllAbove name qs = all_above name qs s.2 (below_next name q qs b s.1) in
    let t = above_step (slice_cmp nat_cmp q.name name) (slice_cmp nat_cmp name q.name) name q qs (filter (is_below name) qs) (filter (is_above name) qs) (without_name qs name) (nat_list_cmp_total.antisymm q.name name) b (texts_ties q.name name) rest.none rest.all rest.others in
    record { none = t.0; all = t.1; others = t.2 }

same_first : (a b : List ℕ) (ps : List Pair) → slice_cmp nat_cmp a b ≡ Equal → IsBelowFirst a ps → IsBelowFirst b ps
same_first a b [] e h = tt
same_first a b (q ∷ qs) e h = sym (nat_list_cmp_total.congr a b q.name e) ∙ h

pub below_by : (o : Ordering) (name : List ℕ) (p : Pair) (ps : List Pair) → slice_cmp nat_cmp p.name name ≡ o → (is_lt o ≡ false) → IsBelowFirst p.name ps → IsBelowFirst name ps
below_by Less name p ps e l b = cc
below_by Equal name p ps e l b = same_first p.name name ps e b
below_by Greater name p ps e l b =
    below_next name p ps (nat_list_cmp_total.antisymm name p.name ∙ ap ordering_reverse e) b

-- what follows a pair that is not below the name is above it
above_after : (name : List ℕ) (p : Pair) (ps : List Pair) → IsLabelSet (p ∷ ps) → is_lt (slice_cmp nat_cmp p.name name) ≡ false → AllAbove name ps
above_after name p ps s l =
    all_above name ps s.2 (below_by (slice_cmp nat_cmp p.name name) name p ps refl l s.1)

set_step : (o r : Ordering) (p : Pair) (ps new below above rest : List Pair) → r ≡ ordering_reverse o → below ++ (new ++ above) ≡ rest → (is_lt o ≡ false → (below ≡ []) × (above ≡ ps)) → cond (is_lt o) (p ∷ below) below ++ (new ++ cond (is_lt r) (p ∷ above) above) ≡ by_order o p ps new rest
set_step Less r p ps new below above rest e h far = rw e (ap (λ t. p ∷ t) h)
set_step Equal r p ps new below above rest e h far = let f = far refl in rw (e, f.0, f.1) refl
set_step Greater r p ps new below above rest e h far = let f = far refl in rw (e, f.0, f.1) refl

-- the filters of `set` put the new pairs in
pub set_is_put : (name : List ℕ) (new ps : List Pair) → IsLabelSet ps → filter (is_below name) ps ++ (new ++ filter (is_above name) ps) ≡ put_in name new ps
set_is_put name new [] s = append-nil new
set_is_put name new (p ∷ ps) s =
    set_step (slice_cmp nat_cmp p.name name) (slice_cmp nat_cmp name p.name) p ps new (filter (is_below name) ps) (filter (is_above name) ps) (put_in name new ps) (nat_list_cmp_total.antisymm name p.name) (set_is_put name new ps s.2) (λ l. let a = above_after name p ps s l in (a.none, a.all))

without_step : (o : Ordering) (name : List ℕ) (p : Pair) (ps other rest : List Pair) → bytes_eq p.name name ≡ is_eq o → other ≡ rest → (is_lt o ≡ false → other ≡ ps) → cond (not (bytes_eq p.name name)) (p ∷ other) other ≡ by_order o p ps [] rest
without_step Less name p ps other rest tie h far = rw tie (ap (λ t. p ∷ t) h)
without_step Equal name p ps other rest tie h far = rw tie (far refl)
without_step Greater name p ps other rest tie h far = rw tie (ap (λ t. p ∷ t) (far refl))

-- and so does taking a name out, with no new pair
pub without_is_put : (name : List ℕ) (ps : List Pair) → IsLabelSet ps → without_name ps name ≡ put_in name [] ps
without_is_put name [] s = refl
without_is_put name (p ∷ ps) s =
    without_step (slice_cmp nat_cmp p.name name) name p ps (without_name ps name) (put_in name [] ps) (texts_ties p.name name) (without_is_put name ps s.2) (λ l. (above_after name p ps s l).others)

-- what `set` puts in of a label is the label
pub label_alone : (name value : List ℕ) → value ≢ [] → label_of name value ≡ pair_of name value ∷ []
label_alone name [] h = absurd (h refl)
label_alone name (b ∷ bs) h = refl

pub set_pair_is_put : (x : Pair) (ps : List Pair) → IsLabelSet ps → IsLabel x → put_in x.name (x ∷ []) ps ≡ set_pair ps x
set_pair_is_put x ps s l =
    ap (λ new. put_in x.name new ps) (sym (label_alone x.name x.value l.value)) ∙ sym (set_is_put x.name (label_of x.name x.value) ps s)

pub set_nothing : (name : List ℕ) (ps : List Pair) → IsLabelSet ps → without_name ps name ≡ set_label ps name []
set_nothing name ps s = without_is_put name ps s ∙ sym (set_is_put name [] ps s)

-- `set` gives a label set
label_below : (a name value : List ℕ) → slice_cmp nat_cmp a name ≡ Less → IsBelowFirst a (label_of name value)
label_below a name [] h = tt
label_below a name (b ∷ bs) h = h

new_below : (a name value : List ℕ) (ps : List Pair) → slice_cmp nat_cmp a name ≡ Less → IsBelowFirst a ps → IsBelowFirst a (label_of name value ++ ps)
new_below a name [] ps h b = b
new_below a name (c ∷ cs) ps h b = h

not_empty : (b : ℕ) (bs : List ℕ) → b ∷ bs ≢ []
not_empty b bs = λ e. cc

label_set : (name value : List ℕ) → is_label_name name ≡ true → IsLabelSet (label_of name value)
label_set name [] k = tt
label_set name (b ∷ bs) k = (record { name = k; value = not_empty b bs }, tt, tt)

new_set : (name value : List ℕ) (ps : List Pair) → is_label_name name ≡ true → IsBelowFirst name ps → IsLabelSet ps → IsLabelSet (label_of name value ++ ps)
new_set name [] ps k b s = s
new_set name (c ∷ cs) ps k b s = (record { name = k; value = not_empty c cs }, b, s)

put_below_step : (o : Ordering) (a name value : List ℕ) (p : Pair) (ps rest : List Pair) → slice_cmp nat_cmp a name ≡ Less → IsBelowFirst a (p ∷ ps) → IsBelowFirst a ps → IsBelowFirst a (by_order o p ps (label_of name value) rest)
put_below_step Less a name value p ps rest h b c = b
put_below_step Equal a name value p ps rest h b c = new_below a name value ps h c
put_below_step Greater a name value p ps rest h b c = new_below a name value (p ∷ ps) h b

put_below : (a name value : List ℕ) (ps : List Pair) → slice_cmp nat_cmp a name ≡ Less → IsLabelSet ps → IsBelowFirst a ps → IsBelowFirst a (put_in name (label_of name value) ps)
put_below a name value [] h s b = label_below a name value h
put_below a name value (p ∷ ps) h s b =
    put_below_step (slice_cmp nat_cmp p.name name) a name value p ps (put_in name (label_of name value) ps) h b (below_next a p ps b s.1)

put_set_step : (o : Ordering) (name value : List ℕ) (p : Pair) (ps rest : List Pair) → slice_cmp nat_cmp p.name name ≡ o → is_label_name name ≡ true → IsLabelSet (p ∷ ps) → (o ≡ Less → IsBelowFirst p.name rest) → IsLabelSet rest → IsLabelSet (by_order o p ps (label_of name value) rest)
put_set_step Less name value p ps rest e k s b r = (s.0, b refl, r)
put_set_step Equal name value p ps rest e k s b r = new_set name value ps k (same_first p.name name ps e s.1) s.2
put_set_step Greater name value p ps rest e k s b r =
    new_set name value (p ∷ ps) k (nat_list_cmp_total.antisymm name p.name ∙ ap ordering_reverse e) s

put_set : (name value : List ℕ) (ps : List Pair) → is_label_name name ≡ true → IsLabelSet ps → IsLabelSet (put_in name (label_of name value) ps)
put_set name value [] k s = label_set name value k
put_set name value (p ∷ ps) k s =
    put_set_step (slice_cmp nat_cmp p.name name) name value p ps (put_in name (label_of name value) ps) refl k s (λ l. put_below p.name name value ps l s.2 s.1) (put_set name value ps k s.2)

pub set_is_set : (name value : List ℕ) (ps : List Pair) → is_label_name name ≡ true → IsLabelSet ps → IsLabelSet (set_label ps name value)
set_is_set name value ps k s = rw (set_is_put name (label_of name value) ps s) (put_set name value ps k s)

pub not_zero : (n : ℕ) (test : Bool) → test ≡ true → test ≡ (suc n == 0) → ⊥
not_zero n test h e = grind (arith, nat_tests)

empty_value : (value : List ℕ) (test : Bool) → test ≡ true → test ≡ (length value == 0) → value ≡ []
empty_value [] test h e = refl
empty_value (b ∷ bs) test h e = absurd (not_zero (length bs) test h e)

-- to set an empty value is to set nothing
pub set_empty : (name value : List ℕ) (ps : List Pair) (test : Bool) → test ≡ true → test ≡ (length value == 0) → set_label ps name [] ≡ set_label ps name value
set_empty name value ps test h e = ap (set_label ps name) (sym (empty_value value test h e))

-- whether or not a label could be put in, a label set remains
pub put_is_set : {T E : Type 0} (r : Result T E) (old new : List Pair) (x : Pair) → IsLabelSet old → is_label_name x.name ≡ true → OnOk r (new ≡ set_pair old x) → OnErr r (new ≡ old) → IsLabelSet new
put_is_set (Ok t) old new x s named ok err = rw ok (set_is_set x.name x.value old named s)
put_is_set (Err e) old new x s named ok err = rw err s
