use Rattle.std.proofs.Common.{List, [], sym, subst}
use Rattle.spec_rules.specs.Settings.{of_a_run}
use Rattle.pr_engine.specs.pr_group.private.Keeping.{KeptGroup}
use Rattle.pr_engine.specs.pr_manager.private.Keeping.{KeepEach}
use Rattle.pr_backfill.proofs.fresh.fresh_groups.Goals as goal

pub returns : goal.returns
returns g c = λ history.
    c.in_ok-push_groups.ensures history []
    (subst (λ (ks : List (KeptGroup g.row.R.Denot)). KeepEach g.R.Ranges.fits g.R.Ranges.last g.R.Ranges.passed of_a_run history ks []) (sym c.new-kept.ensures.items) tt)
