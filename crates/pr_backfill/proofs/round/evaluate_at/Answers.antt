use Rattle.std.proofs.Common.{◌≡◌, length, slice_get, Some, refl}
use Rattle.std.proofs.lemmas.Option.{slice_get_read}
use Rattle.pr_backfill.proofs.Filling.{stepped_at}
use Rattle.pr_backfill.proofs.round.evaluate_at.Goals as goal

pub returns-clause-step : goal.returns-clause-step
returns-clause-step g c = λ s history k it here under may after.
    let ks = c.args.groups.now.items in
    let n = c.args.place in
    let at : slice_get ks n ≡ Some c.index_mut.result.now = slice_get_read ks (length ks) n c.index_mut.result.now refl c.requires c.index_mut.ensures.value in
    stepped_at g.R.Ranges.fits g.R.Ranges.last g.R.Ranges.passed s it k c.index_mut.result.now c.evaluate.new.group history c.args.time c.args.head.now c.evaluate.new.head ks n c.evaluate.result at here
    (λ u. c.evaluate.ensures s history it u may after) under
