use Rattle.std.proofs.Common.{◌≡◌, ◌∷◌, ◌++◌, List, map, ap, sym, subst, ◌∙◌, Ok}
use Rattle.std.proofs.lemmas.Map.Iter.{rest_more}
use Rattle.std.specs.Option.{option_to_list}
use Rattle.pr_labels.specs.declared.item.Item.{Item}
use Rattle.pr_range.specs.spec_history.declared.spot.Spot.{Spot}
use Rattle.pr_eval.specs.private.Taken.{AreAllWithin, entry_series, series_in}
use Rattle.pr_num.specs.declared.value.Num.{Num}
use Rattle.pr_range.specs.private.Spots.{AreWithin}
use Rattle.pr_labels.specs.Rising.{IsRising}
use Rattle.pr_range.specs.spec_vectors.Ranges.{over}
use Rattle.pr_range.specs.spec_vectors.Vectors.{element, label_sets}
use Rattle.pr_eval.specs.private.Answering.{after, elements_of}
use Rattle.pr_eval.proofs.AskedSeries.{on_ok}
use Rattle.pr_eval.proofs.SeriesGathered.{element_rises, series_rise}
use Rattle.pr_eval.proofs.Named.{after_none, element_step}
use Rattle.pr_eval.proofs.range_calls.of_subquery.elements.Goals as goal

pub loop-labels-init : goal.loop-labels-init
loop-labels-init c =
    let same : c.into_iter-labels-iterator.result ≡ c.args.series.entries = c.into_iter-labels-iterator.ensures.into_iter_gives.0 in
    record {
      answer = λ w.
          ap (λ l. after l (elements_of c.args.ask.now (map entry_series c.into_iter-labels-iterator.result))) c.new-elements.ensures.items
          ∙ after_none (elements_of c.args.ask.now (map entry_series c.into_iter-labels-iterator.result)) ∙ ap (λ es. elements_of c.args.ask.now (map entry_series es)) same;
      within = λ w. subst (λ es. AreAllWithin c.args.ask.now.from c.args.ask.now.to (map entry_series es)) (sym same) w;
      rising = subst (λ (l : List (Item Num)). IsRising (label_sets l ++ map (λ (s : Item (List Spot)). s.labels) (map entry_series c.into_iter-labels-iterator.result))) (sym c.new-elements.ensures.items)
          (subst (λ es. IsRising (map (λ (s : Item (List Spot)). s.labels) (map entry_series es))) (sym same) (series_rise c.args.series c.requires.ordered));
    }

pub loop-labels-preserved : goal.loop-labels-preserved
loop-labels-preserved c =
    let at = c.loop-labels in
    let ask = c.args.ask.now in
    let labels = c.in-Some.labels in
    let spots = c.in-Some.spots in
    let s : Item (List Spot) = entry_series (labels, spots) in
    let rest : at.labels-iterator ≡ (labels, spots) ∷ c.next.new.self = rest_more (λ x. x) at.labels-iterator c.next.new.self c.next.result (labels, spots) c.in-Some.is c.next.ensures.steps in
    let pushed : c.push_element.new.elements.items ≡ at.elements.items ++ map (element labels) (option_to_list c.in-Ok.given) = on_ok _ c.push_element.result (sym c.is_err.ensures.value ∙ c.if-is_err.false) c.push_element.ensures in
    record {
      answer = λ w.
          let within = subst (λ es. AreAllWithin ask.from ask.to (map entry_series es)) rest (at.invariant.within w) in
          let is : over ask spots ≡ Ok c.in-Ok.given = subst (λ l. AreWithin ask.from ask.to l → over ask l ≡ Ok c.in-Ok.given) c.as_slice.ensures c.in-Ok.ensures.answer within.0 in
          ap (λ (l : List (Item Num)). after l (elements_of ask (map entry_series c.next.new.self))) pushed
          ∙ element_step ask s (map entry_series c.next.new.self) at.elements.items c.in-Ok.given (elements_of ask (series_in c.args.series)) is
          (ap (λ es. after at.elements.items (elements_of ask (map entry_series es))) (sym rest) ∙ at.invariant.answer w);
      within = λ w. (subst (λ es. AreAllWithin ask.from ask.to (map entry_series es)) rest (at.invariant.within w)).1;
      rising =
          subst (λ (l : List (Item Num)). IsRising (label_sets l ++ map (λ (s : Item (List Spot)). s.labels) (map entry_series c.next.new.self))) (sym pushed)
          (element_rises at.elements.items labels c.in-Ok.given (map (λ (s : Item (List Spot)). s.labels) (map entry_series c.next.new.self))
          (subst (λ es. IsRising (label_sets at.elements.items ++ map (λ (s : Item (List Spot)). s.labels) (map entry_series es))) rest at.invariant.rising));
    }
