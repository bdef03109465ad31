use Rattle.std.proofs.Common.{ℤ, slice_get, option_and_then, sym, ap, ◌∙◌, w64}
use Rattle.std.proofs.lemmas.Int.{to_z-of_z}
use Rattle.pr_rule.specs.pr_head.private.Stored.{newest_at}
use Rattle.pr_group.specs.private.Restoring.{kept_of_last_hour}
use Rattle.pr_group.proofs.ForState.{told_nowhere, told_there}
use Rattle.pr_group.proofs.restoring.newest_until.Goals as goal

pub returns-in-None-clause-found : goal.returns-in-None-clause-found
returns-in-None-clause-found g c = λ history now at over. sym (told_nowhere c.args.head.now history now c.args.labels.now over.holds c.in-None.ensures.none)

pub returns-in-Some-clause-found : goal.returns-in-Some-clause-found
returns-in-Some-clause-found g c = λ history now at over.
    ap (kept_of_last_hour now) c.newest_at.ensures.value
    ∙ ap (λ (x : ℤ). kept_of_last_hour now (option_and_then (λ e. newest_at e.1 x) (slice_get c.args.head.now c.in-Some.series))) (to_z-of_z w64 c.args.time c.ranges.time ∙ at)
    ∙ sym (told_there c.args.head.now history now c.in-Some.series c.args.labels.now over c.in-Some.ensures.found)
