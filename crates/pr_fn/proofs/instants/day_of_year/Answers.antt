use Rattle.std.proofs.Common.{◌≡◌, ◌+◌, ◌-◌, pos, ap, ◌∙◌, rules}
use Rattle.spec_vectors.specs.Calendar.{date_after, days_before}
use Rattle.pr_fn.proofs.CivilDates.{ordinal_after}
use Rattle.pr_fn.proofs.instants.day_of_year.Goals as goal

pub returns : goal.returns
returns c =
    let made : c.day_of_year.result ≡ pos (days_before (date_after c.args.days).year ((date_after c.args.days).month - 1) + (date_after c.args.days).day) =
    c.day_of_year.ensures ∙ ap pos (ordinal_after c.args.days c.date_after.result c.date_after.ensures) in
    search (rules, made)
