use Rattle.std.proofs.Common.{◌≡◌, List, ◌∷◌, length, fold, cond, Bool, Some, None, slice_get, refl, sym, ap, ◌∙◌, subst}
use Rattle.std.proofs.lemmas.Option.{slice_get_read}
use Rattle.std.specs.List.{AllByRecursion}
use Rattle.spec_vectors.specs.pr_num.declared.value.Num.{Num}
use Rattle.spec_vectors.specs.pr_labels.declared.pair.Pair.{Pair}
use Rattle.spec_vectors.specs.pr_labels.declared.item.Item.{Item}
use Rattle.pr_join.specs.declared.places.KeyPlace.{KeyPlace}
use Rattle.pr_join.specs.private.Places.{IsTold, least_with, lesser}
use Rattle.pr_join.proofs.LeastShared.{all_told, least_found, told_key}
use Rattle.pr_join.proofs.places.first_shared.Goals as goal

pub loop-place-init : goal.loop-place-init
loop-place-init c = record {
  least = ap (λ (es : List (List Pair × KeyPlace)). fold least_with None es) c.into_iter-place-iterator.ensures.into_iter_gives.0;
  told = subst (λ (es : List (List Pair × KeyPlace)). AllByRecursion (IsTold c.args.how.now c.args.side.now) es) (sym c.into_iter-place-iterator.ensures.into_iter_gives.0)
      (all_told c.args.how.now c.args.side.now c.args.places.now c.requires);
}

pub loop-place-preserved-then-place : goal.loop-place-preserved-then-place
loop-place-preserved-then-place c =
    let how = c.args.how.now in
    let side = c.args.side.now in
    let e : List Pair × KeyPlace = (c.in-Some.field-0-0.now, c.in-Some.place.now) in
    let rest = c.next.new.self in
    let split : c.loop-place.place-iterator ≡ e ∷ rest = c.in-Some.ensures.steps in
    let told : AllByRecursion (IsTold how side) (e ∷ rest) = subst (λ (es : List (List Pair × KeyPlace)). AllByRecursion (IsTold how side) es) split c.loop-place.invariant.told in
    let x : Item Num = c.index-side-place.result in
    let at : slice_get side e.1.index ≡ Some x = slice_get_read side (length side) e.1.index x refl told.0.within c.index-side-place.is in
    let key : c.in_ok-key.key ≡ e.0 = c.in_ok-key.ensures ∙ told_key how side e x told.0 at in
    let least : c.lesser.result ≡ lesser c.loop-place.least e.0 = c.lesser.ensures ∙ ap (λ (k : List Pair). lesser c.loop-place.least k) key in
    record {
      told = told.1;
      least = ap (λ (k : List Pair). fold least_with (Some k) rest) least
          ∙ ap (λ (b : Bool). fold least_with (cond b (Some (lesser c.loop-place.least e.0)) c.loop-place.least) rest) (sym c.if-place.true)
          ∙ ap (λ (es : List (List Pair × KeyPlace)). fold least_with c.loop-place.least es) (sym split)
          ∙ c.loop-place.invariant.least;
    }

pub returns : goal.returns
returns c =
    ap (λ (es : List (List Pair × KeyPlace)). fold least_with c.loop-place.least es) (sym c.in-None.ensures.steps.0) ∙ c.loop-place.invariant.least
    ∙ least_found c.args.how.now c.args.side.now c.args.places.now c.requires
