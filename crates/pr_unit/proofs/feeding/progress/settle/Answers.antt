use Rattle.std.proofs.Common.{◌≡◌, ◌+◌, ◌-◌, ◌≤◌, length, slice_get, Some, None, refl, sym, subst, arith}
use Rattle.std.proofs.lemmas.Option.{slice_get_past, slice_get_read}
use Rattle.spec_tests.specs.pr_testfile.Points.{size}
use Rattle.pr_unit.proofs.Going.{progress, stretch_ends}
use Rattle.pr_unit.specs.private.Feeding.{IsAt}
use Rattle.pr_unit.proofs.feeding.progress.settle.Goals as goal

pub ended-preserved : goal.ended-preserved
ended-preserved c = λ place h.
    let xs = c.args.stretches.now in
    let k = c.ended.progress.stretch in
    let n = c.ended.progress.within in
    let s = c.in-Some.stretch.now in
    let there : slice_get xs k ≡ Some s = slice_get_read xs (length xs) k s refl c.in-Some.ensures.lookup.3.0 c.in-Some.ensures.lookup.1 in
    let full : size s ≤ n = omega (arith, c.size-size.ensures.value) in
    subst (λ m. IsAt xs place (progress (k + 1) (n - m))) (sym c.size-size.ensures.value) (stretch_ends xs place k n s there full (c.ended.invariant place h))

pub returns-clause-within : goal.returns-clause-within
returns-clause-within c = λ s there.
    let none : slice_get c.args.stretches.now c.ended.progress.stretch ≡ None = slice_get_past c.args.stretches.now c.ended.progress.stretch c.in_default.ensures.lookup.3 in
    absurd cc

pub returns-clause-small : goal.returns-clause-small
returns-clause-small c = λ s there.
    let none : slice_get c.args.stretches.now c.ended.progress.stretch ≡ None = slice_get_past c.args.stretches.now c.ended.progress.stretch c.in_default.ensures.lookup.3 in
    absurd cc
