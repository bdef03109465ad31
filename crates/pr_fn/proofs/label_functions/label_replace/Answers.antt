use Rattle.std.proofs.Common.{◌≡◌, ℕ, ◌+◌, ◌<◌, ◌≤◌, List, [], ◌∷◌, ◌++◌, take, length, map, ap, sym, ◌∙◌, subst, arith}
use Rattle.std.specs.Prelude.{IfSome, MatchResult, Ok, Err}
use Rattle.std.proofs.lemmas.List.{map-append, take_all, take_more}
use Rattle.pr_num.specs.declared.value.Num.{Num}
use Rattle.pr_match.specs.pr_labels.declared.item.Item.{Item}
use Rattle.pr_match.specs.pr_labels.LabelSet.{text_at}
use Rattle.pr_match.specs.Pattern.{Replacement, expanded}
use Rattle.spec_vectors.specs.LabelFunctions.{Expansion, label_replaced, set_if_any, with_expansion}
use Rattle.spec_vectors.specs.Vectors.{element}
use Rattle.pr_fn.specs.private.Faults.{function_told}
use Rattle.pr_fn.specs.private.Rows.{AreRows}
use Rattle.pr_fn.proofs.label_functions.label_replace.Goals as goal

pub returns-clause-replaced : goal.returns-clause-replaced
returns-clause-replaced c =
    let made : Expansion = λ text. expanded c.args.pattern.now text c.args.template.now in
    let items : List (Item Num) = c.args.vector.now in
    let n = c.loop-item.item-index in
    let all : length items ≤ n = omega (arith, c.loop-item-test.false) in
    subst (λ (some : List (Item Num)). MatchResult c.told_apart.result
    (λ v. label_replaced c.args.dst.now c.args.src.now made some ≡ Ok v.items)
    (λ e. IfSome (function_told e) (λ fault. label_replaced c.args.dst.now c.args.src.now made some ≡ Err fault)))
    (take_all n items all)
    (c.told_apart.ensures.told (map (with_expansion c.args.dst.now c.args.src.now made) (take n items)) c.loop-item.invariant.rows)

pub loop-item-preserved : goal.loop-item-preserved
loop-item-preserved c =
    let made : Expansion = λ text. expanded c.args.pattern.now text c.args.template.now in
    let one : Item Num → Item Num = with_expansion c.args.dst.now c.args.src.now made in
    let items : List (Item Num) = c.args.vector.now in
    let n = c.loop-item.item-index in
    let x : Item Num = c.item-item.result in
    let within : n < length items = omega arith in
    let is : element c.in_ok-labels.labels x.value ≡ one x = ap (λ labels. element labels x.value)
    (c.in_ok-labels.ensures.made ∙ ap (λ (e : Replacement). set_if_any x.labels c.args.dst.now (expanded e.pattern (text_at x.labels c.args.src.now) e.template)) c.loop-item.invariant.expander) in
    let more : map one (take n items) ++ element c.in_ok-labels.labels x.value ∷ [] ≡ map one (take (n + 1) items) =
    ap (λ i. map one (take n items) ++ i ∷ []) is ∙ sym (map-append one (take n items) (x ∷ []))
    ∙ ap (map one) (sym (take_more items n x within ∙ ap (λ (y : Item Num). take n items ++ y ∷ []) (sym c.item-item.is))) in
    record {
      expander = c.in_ok-labels.ensures.same ∙ c.loop-item.invariant.expander;
      rows = subst (λ (front : List (Item Num)). AreRows front c.put.new.rows) more (c.in_ok-put.ensures (map one (take n items)) c.loop-item.invariant.rows);
    }
