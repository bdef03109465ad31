use Rattle.std.proofs.Common.{◌≡◌, ◌<◌, length, slice_get, Some, ap, refl, arith}
use Rattle.std.proofs.lemmas.List.{drop_all}
use Rattle.std.proofs.lemmas.Option.{slice_get_read}
use Rattle.pr_head.specs.private.Index.{has_label, listing_of}
use Rattle.pr_head.proofs.Indexing.{removed_more}
use Rattle.pr_head.proofs.by_label.ByLabel.remove_each.Goals as goal

pub loop-label-init : goal.loop-label-init
loop-label-init c = λ before same old none other. (old other, none other)

pub loop-label-preserved : goal.loop-label-preserved
loop-label-preserved c = λ before same old none other.
    let pairs = c.args.pairs.now in
    let i = c.loop-label.label-index in
    let p = c.label-item.result in
    let within : i < length pairs = omega arith in
    let at : slice_get pairs i ≡ Some p = slice_get_read pairs (length pairs) i p refl within c.label-item.is in
    removed_more pairs i p other c.args.labels.now (before other) (listing_of c.loop-label.self other) (listing_of c.remove.new.self other) at (same other)
    (c.loop-label.invariant before same old none other) (c.remove.ensures other)

pub returns : goal.returns
returns c = λ before same old none other.
    (c.loop-label.invariant before same old none other).1 (ap (has_label other) (drop_all c.loop-label.label-index c.args.pairs.now (omega arith)))
