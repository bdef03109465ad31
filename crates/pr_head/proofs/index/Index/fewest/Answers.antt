use Rattle.std.proofs.Common.{◌≡◌, ◌<◌, length, slice_get, Some, refl, arith}
use Rattle.std.proofs.lemmas.Option.{slice_get_read}
use Rattle.pr_head.proofs.Indexing.{enough_all}
use Rattle.pr_head.proofs.index.Index.fewest.Goals as goal

pub loop-label-init : goal.loop-label-init
loop-label-init c = λ sets indexed. enough_all c.args.equal.now c.args.self.now.all c.args.self.now.by_label sets indexed

pub loop-label-preserved : goal.loop-label-preserved
loop-label-preserved c = λ sets indexed.
    let equal = c.args.equal.now in
    let i = c.loop-label.label-index in
    let p = c.label-item.result in
    let within : i < length equal = omega arith in
    let at : slice_get equal i ≡ Some p = slice_get_read equal (length equal) i p refl within c.label-item.is in
    c.in-Some.ensures equal i sets at indexed (c.loop-label.invariant sets indexed)

pub returns-in-None : goal.returns-in-None
returns-in-None c = λ sets indexed.
    let equal = c.args.equal.now in
    let i = c.loop-label.label-index in
    let p = c.label-item.result in
    let within : i < length equal = omega arith in
    let at : slice_get equal i ≡ Some p = slice_get_read equal (length equal) i p refl within c.label-item.is in
    c.in-None.ensures equal i sets at indexed (c.loop-label.invariant sets indexed)
