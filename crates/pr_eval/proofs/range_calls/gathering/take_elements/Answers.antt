use Rattle.std.proofs.Common.{◌≡◌, ◌∷◌, ◌++◌, [], List, length, map, refl, ap, sym, subst, ◌∙◌, append_assoc, append-nil, arith, rules}
use Rattle.std.proofs.lemmas.List.{map-append}
use Rattle.std.specs.Vec.Iter.{into_iter_items}
use Rattle.pr_eval.specs.private.Taken.{IsGathered, all_timed, item_at}
use Rattle.pr_eval.proofs.SeriesGathered.{taken_more}
use Rattle.pr_eval.proofs.range_calls.gathering.take_elements.Goals as goal

nothing_left : {X : Type 0} (l : List X) → length l ≡ 0 → l ≡ []
nothing_left [] h = refl
nothing_left (x ∷ xs) h = absurd (omega arith)

pub loop-item-init : goal.loop-item-init
loop-item-init c = record {
  gathered = λ front h. subst (λ l. IsGathered l c.args.series.now) (sym (append-nil front)) h;
  ordered = c.requires.ordered;
  so_far = refl;
  left = search rules;
}

pub loop-item-preserved : goal.loop-item-preserved
loop-item-preserved c =
    let at = c.loop-item in
    let x = c.in-Some.item in
    let steps : into_iter_items at.item-iterator ≡ x ∷ into_iter_items c.next.new.self = c.in-Some.ensures.steps.0 in
    record {
      gathered = λ front h.
          subst (λ l. IsGathered l c.take_one.new.series)
          (append_assoc front (map (item_at c.args.time) c.loop-item.yielded) (item_at c.args.time c.in-Some.item ∷ [])
          ∙ ap (λ l. front ++ l) (sym (map-append (item_at c.args.time) c.loop-item.yielded (c.in-Some.item ∷ []))))
          (c.in_ok-take_one.ensures.gathered (front ++ map (item_at c.args.time) c.loop-item.yielded) (c.loop-item.invariant.gathered front h));
      ordered = c.in_ok-take_one.ensures.ordered;
      so_far = append_assoc at.yielded (x ∷ []) _ ∙ rw (← steps) at.invariant.so_far;
      left =
          let was = at.invariant.left in
          let gone = c.in-Some.ensures.steps.1 in
          let short = ap length steps in
          omega arith;
    }

pub returns-clause-taken : goal.returns-clause-taken
returns-clause-taken c = λ ts h.
    let at = c.loop-item in
    let none = c.in-None.ensures.steps in
    let empty : into_iter_items at.item-iterator ≡ [] = nothing_left _ (sym at.invariant.left ∙ none.0) in
    let all = sym (append-nil at.yielded) ∙ rw empty at at.invariant.so_far ∙ c.into_iter-item-iterator.ensures.into_iter_gives.0 in
    taken_more ts c.args.time c.args.items.items c.args.series.now at.series h c.requires.vector
    (subst (λ xs. IsGathered (all_timed ts ++ map (item_at c.args.time) xs) at.series) all (at.invariant.gathered (all_timed ts) h.gathered))
