use Rattle.std.proofs.Common.{◌≡◌, ◌<◌, cond, length, slice_get, take, Some, ap, refl, ◌∙◌, arith}
use Rattle.std.proofs.lemmas.List.{take_all}
use Rattle.std.proofs.lemmas.Option.{slice_get_read}
use Rattle.std.specs.BTreeMap.{insert_entry}
use Rattle.pr_labels.specs.Order.{labels_cmp}
use Rattle.pr_head.specs.private.Index.{has_label, listing_of}
use Rattle.pr_head.proofs.Indexing.{added_more, none_removed, others_stay, some_removed}
use Rattle.pr_head.proofs.by_label.ByLabel.add_each.Goals as goal

pub loop-label-init : goal.loop-label-init
loop-label-init c = λ other. refl

pub loop-label-preserved : goal.loop-label-preserved
loop-label-preserved c = λ other.
    let pairs = c.args.pairs.now in
    let i = c.loop-label.label-index in
    let p = c.label-item.result in
    let within : i < length pairs = omega arith in
    let at : slice_get pairs i ≡ Some p = slice_get_read pairs (length pairs) i p refl within c.label-item.is in
    added_more pairs i p other c.args.labels.now c.args.number (listing_of c.args.self.now other) (listing_of c.loop-label.self other) (listing_of c.add_copy.new.self other) at
    (c.loop-label.invariant other) (c.in_default.ensures.ok other)

pub returns-in-Err-clause-err : goal.returns-in-Err-clause-err
returns-in-Err-clause-err c = λ absent.
    let labels = c.args.labels.now in
    let pairs = c.args.pairs.now in
    let i = c.loop-label.label-index in
    let old = listing_of c.args.self.now in
    let now = listing_of c.add_copy.new.self in
    let is : (other : _) → now other ≡ cond (has_label other (take i pairs)) (insert_entry labels_cmp (old other) labels c.args.number) (old other) =
    λ other. c.in-Err.ensures.err other ∙ c.loop-label.invariant other in
    c.remove_each.ensures old (λ other. none_removed labels (old other) (absent other))
    (λ other. some_removed (has_label other (take i pairs)) labels c.args.number (old other) (now other) (absent other) (is other))
    (λ other none. others_stay pairs i other labels c.args.number (old other) (now other) none (is other))

pub returns-clause-ok : goal.returns-clause-ok
returns-clause-ok c = λ other.
    let old = listing_of c.args.self.now other in
    c.loop-label.invariant other
    ∙ ap (λ l. cond (has_label other l) (insert_entry labels_cmp old c.args.labels.now c.args.number) old) (take_all c.loop-label.label-index c.args.pairs.now (omega arith))
