-- One more of what is remembered, and all of it.
use Rattle.std.specs.Prelude.{Vec}
use Rattle.std.proofs.Common.{◌≡◌, ℕ, zero, suc, ◌+◌, ◌<◌, false, List, [], ◌∷◌, ◌++◌, length, map, get_or, take, slice_get, Option, Some, None, Result, Ok, Err, IfOk, IfSome, refl, sym, ap, ◌∙◌, subst, arith}
use Rattle.std.proofs.lemmas.List.{map-append, take_more}
use Rattle.std.proofs.lemmas.Option.{get_or_from_slice_get, slice_get-get_or, slice_get-map, slice_get_within}
use Rattle.std.specs.Option.{option_map}
use Rattle.std.specs.Ordering.{is_ge}
use Rattle.std.specs.declared.alloc.Global.{Global}
use Rattle.std.specs.declared.cmp.Ordering.{Ordering}
use Rattle.std.specs.declared.cmp.Ordering.TheVariants.{Less, Equal, Greater}
use Rattle.pr_ast.specs.pr_num.declared.value.Num.{Num}
use Rattle.pr_labels.specs.declared.item.Item.{Item}
use Rattle.pr_labels.specs.declared.pair.Pair.{Pair}
use Rattle.pr_labels.specs.Order.{labels_cmp}
use Rattle.pr_labels.specs.Rising.{IsRising}
use Rattle.spec_rules.specs.spec_alerts.declared.found.RuleElement.{RuleElement}
use Rattle.spec_rules.specs.Results.{made_labels, sets_in}
use Rattle.pr_rule.specs.declared.rule_result.made.Made.{Made}
use Rattle.pr_rule.specs.private.Making.{AreRecorded, recorded_under, sets_made}

-- the labels that were made at a place
pub set_at : (made : List Made) (place : ℕ) (d : Made) → place < length made → slice_get (sets_made made) place ≡ Some (get_or made place d).to
set_at made place d within = slice_get-map (λ (m : Made). m.to) made place ∙ ap (option_map (λ (m : Made). m.to)) (slice_get-get_or made place d within)

-- one that is above the last of those that rise
rise_on : (sets : List (List Pair)) (i : ℕ) (last next : List Pair) → slice_get sets i ≡ Some last → slice_get sets (suc i) ≡ Some next → labels_cmp last next ≡ Less → IsRising (take (suc i) sets)
    → IsRising (take (suc (suc i)) sets)
rise_on [] i last next e f less h = tt
rise_on (x ∷ []) i last next e f less h = (tt, tt)
rise_on (x ∷ y ∷ rest) zero last next e f less h =
    let first : x ≡ last = cc in
    let second : y ≡ next = cc in
    ((λ i. labels_cmp (first i) (second i)) ∙ less, (tt, tt))
rise_on (x ∷ y ∷ rest) (suc i) last next e f less h = (h.0, rise_on (y ∷ rest) i last next e f less h.1)

not_above : (o : Ordering) → is_ge o ≡ false → o ≡ Less
not_above Less h = refl
not_above Equal h = cc
not_above Greater h = cc

pub one_more_rises : (made : List Made) (before place : ℕ) (d e : Made) → before + 1 ≡ place → place < length made → is_ge (labels_cmp (get_or made before d).to (get_or made place e).to) ≡ false
    → IsRising (take place (sets_made made)) → IsRising (take (place + 1) (sets_made made))
one_more_rises made before place d e is within less h =
    let last = (get_or made before d).to in
    let next = (get_or made place e).to in
    let here : place ≡ suc before = omega arith in
    let there : suc (suc before) ≡ place + 1 = omega arith in
    let second : slice_get (sets_made made) (suc before) ≡ Some next = subst (λ (n : ℕ). slice_get (sets_made made) n ≡ Some next) here (set_at made place e within) in
    subst (λ (n : ℕ). IsRising (take n (sets_made made))) there
    (rise_on (sets_made made) before last next (set_at made before d (omega arith)) second (not_above (labels_cmp last next) less) (subst (λ (n : ℕ). IsRising (take n (sets_made made))) here h))

-- one more that is recorded by the labels that were made at its place
pub one_more_set : (founds pushed : List RuleElement) (f : RuleElement) (sets : List (List Pair)) (place : ℕ) (to : List Pair) → pushed ≡ founds ++ f ∷ [] → f.labels ≡ to → slice_get sets place ≡ Some to
    → sets_in founds ≡ take place sets → sets_in pushed ≡ take (place + 1) sets
one_more_set founds pushed f sets place to more is at h =
    ap sets_in more ∙ map-append (λ (f : RuleElement). f.labels) founds (f ∷ []) ∙ (λ i. h i ++ is i ∷ [])
    ∙ ap (λ (l : List Pair). take place sets ++ l ∷ []) (sym (get_or_from_slice_get sets place to to at)) ∙ sym (take_more sets place to (slice_get_within sets place to at))

pub one_more_found : (name : List ℕ) (labels : List Pair) (founds pushed : List RuleElement) (f : RuleElement) (items : List (Item Num)) (place : ℕ) (item : Item Num) (to : List Pair) → place < length items
    → item ≡ get_or items place item → pushed ≡ founds ++ f ∷ [] → f ≡ record { labels = to; notes = []; value = item.value } → to ≡ made_labels name labels item.labels
    → founds ≡ map (recorded_under name labels) (take place items) → pushed ≡ map (recorded_under name labels) (take (place + 1) items)
one_more_found name labels founds pushed f items place item to within at more is made h =
    let found : f ≡ recorded_under name labels (get_or items place item) =
    is ∙ ap (λ (l : List Pair). record { labels = l; notes = []; value = item.value }) made ∙ ap (recorded_under name labels) at in
    more ∙ (λ i. h i ++ found i ∷ []) ∙ sym (map-append (recorded_under name labels) (take place items) (get_or items place item ∷ []))
    ∙ ap (map (recorded_under name labels)) (sym (take_more items place item within))

-- what is recorded by labels that rise is in label order
pub all_in_order : {E : Type 0} (r : Result (Option (Vec RuleElement Global)) E) (name : List ℕ) (labels : List Pair) (slice made : List Made) (items : List (Item Num)) → slice ≡ made → IsRising (sets_made made)
    → IfOk r (λ all. IfSome all (λ v. v.items ≡ map (recorded_under name labels) items)) → IfOk r (λ all. IfSome all (λ v. sets_in v.items ≡ sets_made slice))
    → IfOk r (λ all. IfSome all (λ v. AreRecorded name labels items v.items))
all_in_order (Ok (Some v)) name labels slice made items same rise founds sets = record { all = founds; rise = subst IsRising (sym (sets ∙ ap sets_made same)) rise }
all_in_order (Ok None) name labels slice made items same rise founds sets = tt
all_in_order (Err e) name labels slice made items same rise founds sets = tt
