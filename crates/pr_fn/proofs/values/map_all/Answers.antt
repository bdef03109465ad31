use Rattle.std.proofs.Common.{◌≡◌, ◌+◌, ◌<◌, ap, sym, ◌∙◌, List, [], ◌∷◌, ◌++◌, Some, take, length, slice_get, arith, refl, subst}
use Rattle.std.proofs.lemmas.List.{take_more}
use Rattle.std.proofs.lemmas.Map.Keys.{any_passes_from_place}
use Rattle.std.proofs.lemmas.Option.{slice_get_read}
use Rattle.std.specs.List.{filter_map}
use Rattle.pr_num.specs.declared.value.Num.{Num}
use Rattle.pr_match.specs.pr_labels.declared.item.Item.{Item}
use Rattle.spec_vectors.specs.Functions.{is_too_wide, with_value}
use Rattle.pr_fn.specs.private.Rows.{AreRows}
use Rattle.pr_fn.proofs.Mapping.{kept_more, none_wide}
use Rattle.pr_fn.proofs.values.map_all.Goals as goal

pub loop-item-preserved : goal.loop-item-preserved
loop-item-preserved g c = λ f a.
    let vector = c.args.vector.now in
    let i = c.loop-item.item-index in
    let x = c.item-item.result in
    let within : i < length vector = omega arith in
    let before = c.loop-item.invariant f a in
    let taken = c.in_default.ensures f (filter_map (with_value f) (take i vector)) a before.1 in
    let more : take (i + 1) vector ≡ take i vector ++ x ∷ [] = take_more vector i x within ∙ ap (λ (y : Item Num). take i vector ++ y ∷ []) (sym c.item-item.is) in
    rw more (none_wide f (take i vector) x before.0 taken.0, subst (λ (front : List (Item Num)). AreRows front c.map_one.new.rows) (sym (kept_more f (take i vector) x)) taken.1)

pub returns-in-Err : goal.returns-in-Err
returns-in-Err g c = λ f a lacks.
    let vector = c.args.vector.now in
    let i = c.loop-item.item-index in
    let x = c.item-item.result in
    let within : i < length vector = omega arith in
    let at : slice_get vector i ≡ Some x = slice_get_read vector (length vector) i x refl within c.item-item.is in
    let before = c.loop-item.invariant f a in
    let wide = c.in-Err.ensures f (filter_map (with_value f) (take i vector)) a before.1 lacks in
    (wide.0, any_passes_from_place (is_too_wide f) vector i x at wide.1)
