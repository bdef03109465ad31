-- What rises is in order already, and has no label set twice.
use Rattle.std.proofs.Common.{◌≡◌, ℕ, false, List, [], ◌∷◌, ◌++◌, map, fold, Option, Some, None, Result, Ok, refl, sym, ap, ◌∙◌, subst, append_assoc, append-nil}
use Rattle.std.proofs.lemmas.List.{map-append}
use Rattle.std.specs.Prelude.{Vec}
use Rattle.std.specs.declared.alloc.Global.{Global}
use Rattle.std.specs.declared.cmp.Ordering.{Ordering}
use Rattle.std.specs.declared.cmp.Ordering.TheVariants.{Less, Greater}
use Rattle.std.specs.Ordering.{is_eq, ordering_reverse}
use Rattle.pr_ast.specs.pr_num.declared.value.Num.{Num}
use Rattle.pr_labels.specs.declared.item.Item.{Item}
use Rattle.pr_labels.specs.declared.pair.Pair.{Pair}
use Rattle.pr_labels.specs.Order.{labels_cmp, labels_eq, labels_tie}
use Rattle.pr_labels.specs.Rising.{IsRising, is_among}
use Rattle.pr_labels.proofs.LabelOrder.{among_fold, labels_total}
use Rattle.pr_eval.specs.spec_vectors.Functions.{least_twice}
use Rattle.pr_eval.specs.spec_vectors.Vectors.{in_label_order}
use Rattle.pr_eval.proofs.FnTwice.{least_stays}
use Rattle.spec_rules.specs.spec_alerts.declared.found.RuleElement.{RuleElement}
use Rattle.spec_rules.specs.spec_meaning.Answers.{go_on}
use Rattle.spec_rules.specs.Definitions.{Rule}
use Rattle.spec_rules.specs.private.Laws.{FoundsRise}
use Rattle.spec_rules.specs.Results.{found_by, found_of, found_placed, founds_apart, ruled, sets_in, unless_twice, with_found, within_limit, without_place}
use Rattle.spec_rules.specs.pr_tmpl.declared.template.External.{External}
use Rattle.pr_rule.specs.declared.rule_result.error.RuleError.{RuleError}
use Rattle.pr_rule.specs.private.Coming.{ComesTo}
use Rattle.pr_rule.specs.private.Making.{AreRecorded, IsOfRule, recorded_under}

-- An element is above all before it.
below_later : (l : List Pair) (mid : List (List Pair)) (labels : List Pair) (rest : List (List Pair)) → IsRising (l ∷ mid ++ labels ∷ rest) → labels_cmp l labels ≡ Less
below_later l [] labels rest h = h.0
below_later l (m ∷ mid) labels rest h = labels_total.trans l m labels h.0 (below_later m mid labels rest h.1)

above : (a b : List Pair) → labels_cmp a b ≡ Less → labels_cmp b a ≡ Greater
above a b h = labels_total.antisymm b a ∙ ap ordering_reverse h

-- it is none of them
not_among : (labels : List Pair) (front rest : List (List Pair)) → IsRising (front ++ labels ∷ rest) → is_among labels front ≡ false
not_among labels [] rest h = refl
not_among labels (l ∷ front) rest h =
    let apart : labels_eq labels l ≡ false = labels_tie labels l ∙ ap is_eq (above l labels (below_later l front labels rest h)) in
    rw apart (not_among labels front rest h.1)

none_twice : (front rest : List (List Pair)) → IsRising (front ++ rest) → least_twice front ≡ None → least_twice (front ++ rest) ≡ None
none_twice front [] h none = ap least_twice (append-nil front) ∙ none
none_twice front (labels ∷ rest) h none =
    let moved : (front ++ labels ∷ []) ++ rest ≡ front ++ labels ∷ rest = append_assoc front (labels ∷ []) rest in
    let new : is_among labels (in_label_order front) ≡ false = among_fold labels [] front ∙ not_among labels front rest h in
    ap least_twice (sym moved) ∙ none_twice (front ++ labels ∷ []) rest (subst IsRising (sym moved) h) (sym (least_stays front labels new) ∙ none)

-- it is put behind them
sets_joined : (front rest : List RuleElement) → sets_in (front ++ rest) ≡ sets_in front ++ sets_in rest
sets_joined front rest = map-append (λ (f : RuleElement). f.labels) front rest

put_last : (front : List RuleElement) (f : RuleElement) (rest : List RuleElement) → FoundsRise (front ++ f ∷ rest) → with_found front f ≡ front ++ f ∷ []
put_last [] f rest h = refl
put_last (first ∷ front) f rest h =
    let joined : sets_in (front ++ f ∷ rest) ≡ sets_in front ++ f.labels ∷ sets_in rest = sets_joined front (f ∷ rest) in
    let less : labels_cmp first.labels f.labels ≡ Less = below_later first.labels (sets_in front) f.labels (sets_in rest) (subst (λ (ls : List (List Pair)). IsRising (first.labels ∷ ls)) joined h) in
    ap (λ (o : Ordering). found_placed o f first front (with_found front f)) (above first.labels f.labels less) ∙ ap (λ (fs : List RuleElement). first ∷ fs) (put_last front f rest h.1)

all_put : (front rest : List RuleElement) → FoundsRise (front ++ rest) → fold with_found front rest ≡ front ++ rest
all_put front [] h = sym (append-nil front)
all_put front (f ∷ rest) h =
    let moved : (front ++ f ∷ []) ++ rest ≡ front ++ f ∷ rest = append_assoc front (f ∷ []) rest in
    ap (λ (fs : List RuleElement). fold with_found fs rest) (put_last front f rest h) ∙ all_put (front ++ f ∷ []) rest (subst FoundsRise (sym moved) h) ∙ moved

rising_apart : (founds : List RuleElement) → FoundsRise founds → founds_apart founds ≡ Ok founds
rising_apart founds h =
    ap (λ (o : Option (List Pair)). unless_twice o founds) (none_twice [] (sets_in founds) h refl) ∙ ap Ok (all_put [] founds h)

-- what is recorded by the remembered labels is what the rule comes to
recorded_founds : (external : External) (rule : Rule) (made : List ℕ × List Pair) (items : List (Item Num)) → rule.alert ≡ false → IsOfRule made rule
    → map (recorded_under made.0 made.1) items ≡ map (found_of external rule) items
recorded_founds external rule made items e is_of =
    ap (λ (s : List ℕ × List Pair). map (recorded_under s.0 s.1) items) (is_of e) ∙ ap (λ alert. map (found_by external rule alert) items) (sym e)

pub recorded_come : (external : External) (limit : ℕ) (rule : Rule) (made : List ℕ × List Pair) (items : List (Item Num)) (founds : List RuleElement) (r : Result (Vec RuleElement Global) RuleError) → rule.alert ≡ false
    → IsOfRule made rule → AreRecorded made.0 made.1 items founds → ComesTo (without_place (within_limit false limit founds)) r → ComesTo (without_place (ruled external limit rule items)) r
recorded_come external limit rule made items founds r e is_of recorded h =
    let all : founds ≡ map (found_of external rule) items = recorded.all ∙ recorded_founds external rule made items e is_of in
    let apart : founds_apart (map (found_of external rule) items) ≡ Ok founds = ap founds_apart (sym all) ∙ rising_apart founds recorded.rise in
    let is : ruled external limit rule items ≡ within_limit false limit founds =
    ap (λ answer. go_on (within_limit rule.alert limit) answer) apart ∙ ap (λ alert. within_limit alert limit founds) e in
    subst (λ meant. ComesTo (without_place meant) r) (sym is) h
