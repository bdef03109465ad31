use Rattle.std.proofs.Common.{◌≡◌, ◌+◌, ◌<◌, ap, sym, ◌∙◌, Bool, cond, [], ◌∷◌, ◌++◌, take, length, arith, append-nil}
use Rattle.std.proofs.lemmas.List.{take_more}
use Rattle.spec_vectors.specs.pr_num.declared.value.Num.{Num}
use Rattle.spec_vectors.specs.pr_labels.declared.item.Item.{Item}
use Rattle.pr_join.specs.private.Sets.{with_match}
use Rattle.pr_join.proofs.EmptySides.{match_more}
use Rattle.pr_join.proofs.sets.by_keys.Goals as goal
use Rattle.pr_join.proofs.sets.by_keys.Goals.{then-is_wanted+in_ok-copy+in_ok-push, else-is_wanted}

pub loop-item-preserved : goal.loop-item-preserved
loop-item-preserved c =
    let how = c.args.how.now in
    let other = c.args.other.now in
    let side = c.args.side.now in
    let wanted = c.args.wanted in
    let i = c.loop-item.item-index in
    let x : Item Num = c.item-item.result in
    let so_far = with_match how other wanted (take i side) in
    let within : i < length side = omega arith in
    let more : take (i + 1) side ≡ take i side ++ x ∷ [] = take_more side i x within ∙ ap (λ (y : Item Num). take i side ++ y ∷ []) (sym c.item-item.is) in
    let step : with_match how other wanted (take (i + 1) side) ≡ so_far ++ cond c.is_wanted.result (x ∷ []) [] =
    ap (with_match how other wanted) more ∙ match_more how other (take i side) wanted x c.is_wanted.result c.is_wanted.ensures in
    elim c.if-is_wanted.branch [
      | then-is_wanted+in_ok-copy+in_ok-push w ↦
          (λ j. (w.chosen-is j).items) ∙ w.in_ok-push.ensures.items ∙ (λ j. c.loop-item.invariant j ++ w.in_ok-copy.ensures j ∷ [])
          ∙ ap (λ (b : Bool). so_far ++ cond b (x ∷ []) []) (sym w.if-is_wanted.true) ∙ sym step
      | else-is_wanted w ↦
          (λ j. (w.chosen-is j).items) ∙ c.loop-item.invariant ∙ sym (append-nil so_far)
          ∙ ap (λ (b : Bool). so_far ++ cond b (x ∷ []) []) (sym w.if-is_wanted.false) ∙ sym step
    ]
