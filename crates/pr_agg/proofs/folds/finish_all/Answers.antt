use Rattle.std.proofs.Common.{◌≡◌, ap, sym, ◌∙◌, List, ◌∷◌, ◌++◌, Ok}
use Rattle.std.specs.Map.{keys_of}
use Rattle.pr_window.specs.spec_vectors.Vectors.{label_sets}
use Rattle.std.proofs.lemmas.Map.Iter.{rest_more}
use Rattle.pr_num.specs.declared.value.Num.{Num}
use Rattle.pr_window.specs.pr_labels.declared.pair.Pair.{Pair}
use Rattle.pr_window.specs.pr_labels.declared.item.Item.{Item}
use Rattle.pr_agg.specs.private.Parts.{after_items, finished_all}
use Rattle.pr_agg.proofs.Finishing.{finished_more, labels_more}
use Rattle.pr_agg.proofs.folds.finish_all.Goals as goal

pub loop-labels-preserved : goal.loop-labels-preserved
loop-labels-preserved g c =
    let items = c.loop-labels.items.items in
    let labels = c.in-Some.labels in
    let summary = c.in-Some.summary in
    let rest : c.loop-labels.labels-iterator ≡ (labels, summary) ∷ c.next.new.self = rest_more (λ x. x) c.loop-labels.labels-iterator c.next.new.self c.next.result (labels, summary) c.in-Some.is c.next.ensures.steps in
    record {
      finished = λ f a.
          let answered : f summary ≡ Ok c.in-Ok.value = sym (a.gives _ c.finish.result c.finish.ensures) ∙ c.in-Ok.is in
          ap (λ (xs : List (Item Num)). after_items xs (finished_all f c.next.new.self)) c.in_ok-push_element-in-Ok.ensures
          ∙ sym (finished_more items labels c.in-Ok.value (f summary) (finished_all f c.next.new.self) answered)
          ∙ ap (λ (es : List (List Pair × g.row.A.Denot)). after_items items (finished_all f es)) (sym rest)
          ∙ c.loop-labels.invariant.finished f a;
      labels =
          ap (λ (xs : List (Item Num)). label_sets xs ++ keys_of c.next.new.self) c.in_ok-push_element-in-Ok.ensures
          ∙ labels_more items labels c.in-Ok.value (keys_of c.next.new.self)
          ∙ ap (λ (es : List (List Pair × g.row.A.Denot)). label_sets items ++ keys_of es) (sym rest)
          ∙ c.loop-labels.invariant.labels;
    }
