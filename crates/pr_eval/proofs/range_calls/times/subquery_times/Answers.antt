use Rattle.std.proofs.lemmas.Int.{to_z-of_z}
use Rattle.std.proofs.Common.{w64, ◌<◌, ◌≤◌, ◌^◌, ap, sym, subst, ◌∙◌}
use Rattle.pr_eval.specs.private.Times.{AreTimesWithin, multiples_until}
use Rattle.pr_eval.proofs.SubquerySteps.{times_are, times_none, times_small, multiples_within}
use Rattle.pr_eval.proofs.range_calls.times.subquery_times.Goals as goal

pub invariant_of-t-8 : goal.invariant_of-t-8
invariant_of-t-8 c =
    let some : 0 < c.get-step.result = subst (λ n. 0 < n) (sym c.get-step.ensures.value) c.requires.step in
    (some, subst (λ n. n ≤ 2 ^ 40) (sym c.get-step.ensures.value) c.get-step.ensures.small, times_small c.get-step.result c.multiples_until-first.result c.multiples_until-end.result c.args.to some (c.multiples_until-end.ensures ∙ ap (multiples_until c.get-step.result) (to_z-of_z w64 c.args.to c.ranges.to)) c.if-first-end.true c.requires.to)

pub returns-then-first-end-clause-times : goal.returns-then-first-end-clause-times
returns-then-first-end-clause-times c =
    times_are c.get-step.result c.args.step c.multiples_until-first.result c.multiples_until-end.result c.args.from c.args.to c.requires.step c.get-step.ensures.value
    (c.multiples_until-first.ensures ∙ ap (multiples_until c.get-step.result) (to_z-of_z w64 c.args.from c.ranges.from))
    (c.multiples_until-end.ensures ∙ ap (multiples_until c.get-step.result) (to_z-of_z w64 c.args.to c.ranges.to))

pub returns-then-first-end-clause-within : goal.returns-then-first-end-clause-within
returns-then-first-end-clause-within c =
    subst (AreTimesWithin c.args.from c.args.to)
    (sym (times_are c.get-step.result c.args.step c.multiples_until-first.result c.multiples_until-end.result c.args.from c.args.to c.requires.step c.get-step.ensures.value
    (c.multiples_until-first.ensures ∙ ap (multiples_until c.get-step.result) (to_z-of_z w64 c.args.from c.ranges.from))
    (c.multiples_until-end.ensures ∙ ap (multiples_until c.get-step.result) (to_z-of_z w64 c.args.to c.ranges.to))))
    (multiples_within c.args.step c.args.from c.args.to c.requires.step)

pub returns-else-first-end-clause-times : goal.returns-else-first-end-clause-times
returns-else-first-end-clause-times c =
    times_none c.get-step.result c.args.step c.multiples_until-first.result c.multiples_until-end.result c.args.from c.args.to c.requires.step c.get-step.ensures.value
    (c.multiples_until-first.ensures ∙ ap (multiples_until c.get-step.result) (to_z-of_z w64 c.args.from c.ranges.from))
    (c.multiples_until-end.ensures ∙ ap (multiples_until c.get-step.result) (to_z-of_z w64 c.args.to c.ranges.to))
    c.if-first-end.false
