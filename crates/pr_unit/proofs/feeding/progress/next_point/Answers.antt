use Rattle.std.proofs.Common.{◌≡◌, ℕ, ◌^◌, ◌<◌, List, get_or, length, slice_get, Some, refl, ◌∙◌, arith}
use Rattle.std.proofs.lemmas.Option.{slice_get_past, slice_get_read}
use Rattle.spec_tests.specs.pr_testfile.declared.inputs.stretch.Stretch.{Stretch}
use Rattle.pr_unit.proofs.Going.{no_point, nothing_left, one_place, point_next}
use Rattle.pr_unit.proofs.feeding.progress.next_point.Goals as goal

there : (xs : List Stretch) (k : ℕ) (s : Stretch) → k < length xs → s ≡ get_or xs k s → slice_get xs k ≡ Some s
there xs k s h is = slice_get_read xs (length xs) k s refl h is

pub overflow_add-progress : goal.overflow_add-progress
overflow_add-progress c =
    let low : c.settle.new.progress.within < 2 ^ 32 = c.settle.ensures.small c.in-Some.stretch.now (there c.args.stretches.now c.settle.new.progress.stretch c.in-Some.stretch.now c.in-Some.ensures.lookup.3.0 c.in-Some.ensures.lookup.1) in
    omega arith

pub returns-in-Some-clause-point : goal.returns-in-Some-clause-point
returns-in-Some-clause-point c = λ place h.
    let p = c.settle.new.progress in
    let is : slice_get c.args.stretches.now p.stretch ≡ Some c.in-Some.stretch.now = there c.args.stretches.now p.stretch c.in-Some.stretch.now c.in-Some.ensures.lookup.3.0 c.in-Some.ensures.lookup.1 in
    c.point_in-point.ensures ∙ point_next c.args.stretches.now place p c.in-Some.stretch.now is (c.settle.ensures.within c.in-Some.stretch.now is) (c.settle.ensures.at place h)

pub returns-in-Some-clause-at : goal.returns-in-Some-clause-at
returns-in-Some-clause-at c = λ place h. one_place c.args.stretches.now place c.settle.new.progress.stretch c.settle.new.progress.within (c.settle.ensures.at place h)

pub returns-in-None-clause-point : goal.returns-in-None-clause-point
returns-in-None-clause-point c = λ place h.
    no_point c.args.stretches.now place c.settle.new.progress (slice_get_past c.args.stretches.now c.settle.new.progress.stretch c.in-None.ensures.lookup.3) (c.settle.ensures.at place h)

pub returns-in-None-clause-at : goal.returns-in-None-clause-at
returns-in-None-clause-at c = λ place h.
    nothing_left c.args.stretches.now place c.settle.new.progress (slice_get_past c.args.stretches.now c.settle.new.progress.stretch c.in-None.ensures.lookup.3) (c.settle.ensures.at place h)
