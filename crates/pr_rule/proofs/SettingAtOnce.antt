-- To set labels in turn is to take out the names whose values are empty, and then to set the others
-- at once.
use Rattle.std.proofs.Common.{◌≡◌, ℕ, Bool, true, false, not, cond, List, [], ◌∷◌, ◌++◌, filter, map, Option, Some, None, is_some, refl, sym, ap, ◌∙◌, ◌||◌, ◌==◌, length, subst}
use Rattle.std.specs.List.{list_any}
use Rattle.std.specs.Option.{option_or}
use Rattle.std.specs.Str.{bytes_eq}
use Rattle.std.proofs.lemmas.Cmp.{nat_list_eq_equiv}
use Rattle.pr_labels.specs.declared.pair.Pair.{Pair}
use Rattle.pr_labels.specs.Edits.{fault_after, first_fault, has_value, labels_of, pair_fault, set_pair, union_labels, unlisted_labels, value_if_any}
use Rattle.pr_labels.specs.LabelSet.{IsLabelSet, value_of}
use Rattle.pr_labels.proofs.LabelLaws.{first_none, made_is_set, set_stays, union_stays, value_set, value_union, value_without, without_stays}
use Rattle.pr_labels.proofs.Making.{named_pair}
use Rattle.pr_labels.proofs.Putting.{not_zero}
use Rattle.pr_labels.proofs.SetValues.{same_values}
use Rattle.pr_rule.specs.private.Setting.{emptied}

-- what the last pair of a name sets it to, where one has it
abbrev set_to : List Pair → List ℕ → Option (Option (List ℕ))
set_to [] name = None
set_to (p ∷ ps) name = option_or (set_to ps name) (cond (bytes_eq p.name name) (Some (value_if_any p.value)) None)

-- what a name has then, of which this was there before
abbrev after : Option (Option (List ℕ)) → Option (List ℕ) → Option (List ℕ)
after None v = v
after (Some w) v = w

-- one pair, and then later ones
after_both : (later : Option (Option (List ℕ))) (here : Bool) (w v : Option (List ℕ)) → after later (cond here w v) ≡ after (option_or later (cond here (Some w) None)) v
after_both None true w v = refl
after_both None false w v = refl
after_both (Some x) true w v = refl
after_both (Some x) false w v = refl

-- what labels have of a name once pairs were set in turn
value_in_turn : (ls over : List Pair) (name : List ℕ) → value_of (union_labels ls over) name ≡ after (set_to over name) (value_of ls name)
value_in_turn ls [] name = refl
value_in_turn ls (p ∷ ps) name =
    value_in_turn (set_pair ls p) ps name ∙ ap (after (set_to ps name)) (value_set ls p.name p.value name)
    ∙ after_both (set_to ps name) (bytes_eq p.name name) (value_if_any p.value) (value_of ls name)

-- whether a name is among those whose values are empty
abbrev is_out : List Pair → List ℕ → Bool
is_out over name = list_any (bytes_eq name) (emptied over)

-- it is not where no pair has it, and it is where the last one sets it to nothing
abbrev OutAs : Option (Option (List ℕ)) → Bool → Type 0
OutAs None b = b ≡ false
OutAs (Some None) b = b ≡ true
OutAs (Some (Some x)) b = Unit {0}

-- with one pair more in front
out_step : (later : Option (Option (List ℕ))) (here : Bool) (w : Option (List ℕ)) (rest : Bool) → OutAs later rest
    → OutAs (option_or later (cond here (Some w) None)) (cond (not (is_some w)) (here || rest) rest)
out_step None true None rest h = refl
out_step None true (Some x) rest h = tt
out_step None false None rest h = h
out_step None false (Some x) rest h = h
out_step (Some None) true None rest h = refl
out_step (Some None) false None rest h = h
out_step (Some None) here (Some y) rest h = h
out_step (Some (Some x)) here w rest h = tt

-- the names with that of a pair in front, where it is among them
listed : (k : Bool) (p : Pair) (f : List Pair) (name : List ℕ) → list_any (bytes_eq name) (map (λ q. q.name) (cond k (p ∷ f) f))
    ≡ cond k (bytes_eq name p.name || list_any (bytes_eq name) (map (λ q. q.name) f)) (list_any (bytes_eq name) (map (λ q. q.name) f))
listed true p f name = refl
listed false p f name = refl

-- each name is out as the last pair of it says
out : (over : List Pair) (name : List ℕ) → OutAs (set_to over name) (is_out over name)
out [] name = refl
out (p ∷ ps) name =
    let is : is_out (p ∷ ps) name ≡ cond (not (has_value p)) (bytes_eq p.name name || is_out ps name) (is_out ps name) =
    listed (not (has_value p)) p (filter (λ q. not (has_value q)) ps) name ∙ ap (λ b. cond (not (has_value p)) (b || is_out ps name) (is_out ps name)) (nat_list_eq_equiv.symm name p.name) in
    subst (λ b. OutAs (set_to (p ∷ ps) name) b) (sym is) (out_step (set_to ps name) (bytes_eq p.name name) (value_if_any p.value) (is_out ps name) (out ps name))

-- what the set has of a name, or else what stays
at_once : (r : Option (Option (List ℕ))) (b : Bool) (v : Option (List ℕ)) → OutAs r b → option_or (after r None) (cond b None v) ≡ after r v
at_once None b v h = ap (λ c. cond c None v) h
at_once (Some None) b v h = ap (λ c. cond c None v) h
at_once (Some (Some x)) b v h = refl

-- labels with label names leave a label set
set_in_turn : (before ls over : List Pair) → fault_after before over ≡ None → IsLabelSet ls → IsLabelSet (union_labels ls over)
set_in_turn before ls [] f s = s
set_in_turn before ls (p ∷ ps) f s =
    let g = first_none (pair_fault before p) (fault_after (before ++ p ∷ []) ps) f in
    set_in_turn (before ++ p ∷ []) (set_pair ls p) ps g.1 (set_stays ls p.name p.value (named_pair before p g.0) s)

-- the two give the same, since they give the same of each name
pub in_turn_or_at_once : (ls over : List Pair) → IsLabelSet ls → first_fault over ≡ None → union_labels (unlisted_labels ls (emptied over)) (labels_of over) ≡ union_labels ls over
in_turn_or_at_once ls over s f =
    same_values (union_labels (unlisted_labels ls (emptied over)) (labels_of over)) (union_labels ls over)
    (union_stays (unlisted_labels ls (emptied over)) (labels_of over) (without_stays ls (emptied over) s) (made_is_set over f)) (set_in_turn [] ls over f s)
    (λ name. value_union (unlisted_labels ls (emptied over)) (labels_of over) name (made_is_set over f)
    ∙ (λ i. option_or (value_in_turn [] over name i) (value_without ls (emptied over) name i))
    ∙ at_once (set_to over name) (is_out over name) (value_of ls name) (out over name)
    ∙ sym (value_in_turn ls over name))

-- the test for a value
pub no_value : (value : List ℕ) (test : Bool) → test ≡ (length value == 0) → test ≡ not (is_some (value_if_any value))
no_value [] test e = e
no_value (b ∷ bs) true e = absurd (not_zero (length bs) true refl e)
no_value (b ∷ bs) false e = refl
