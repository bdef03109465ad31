use Rattle.std.proofs.Common.{◌≡◌, IfSome, Ok, subst}
use Rattle.spec_history.specs.Histories.{history_of}
use Rattle.pr_top.specs.pr_engine.private.Standing.{StandsFor}
use Rattle.laws_runs.proofs.Restarts.{begins_anew, history_stays, rows_stay}
use Rattle.laws_runs.proofs.recovery.restart_after_an_error.Goals as goal

pub returns-in-Ok-apply-clause-rows : goal.returns-in-Ok-apply-clause-rows
returns-in-Ok-apply-clause-rows g c = λ w stands.
    let keeper = g.K.Keeper.means in
    let kept = c.in-Err.ensures.err w stands in
    let now = (keeper c.apply-2.new.keeper).rows in
    rows_stay c.rows_that_tell_a_history_are_its_encodings.ensures w.history
    (keeper c.args.keeper.now).rows (keeper c.apply.new.keeper).rows now c.in-Err.ensures.rows c.in-Ok-apply.ensures.told kept.tells.rows
    (λ known. subst (λ history. IfSome now (λ rows. history_of rows ≡ Ok history)) (history_stays _ w c.args.time) (c.in-Ok-apply.ensures.world w kept known).tells.rows)

pub returns-in-Ok-apply-clause-anew : goal.returns-in-Ok-apply-clause-anew
returns-in-Ok-apply-clause-anew g c = λ w stands known fine.
    let kept = c.in-Err.ensures.err w stands in
    subst (StandsFor g.R.Ranges.fits g.R.Ranges.last g.R.Ranges.passed _ _) (begins_anew _ w c.args.time c.in-Ok-apply.report (c.in-Ok-apply.ensures.report w kept) fine)
    (c.in-Ok-apply.ensures.world w kept known)
