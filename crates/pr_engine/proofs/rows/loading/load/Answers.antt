use Rattle.std.proofs.Common.{◌≡◌, ◌∙◌, sym, length, arith}
use Rattle.pr_engine.proofs.Loaded.{all_loaded}
use Rattle.pr_engine.proofs.Told.{told_on}
use Rattle.pr_engine.proofs.rows.loading.load.Goals as goal

pub returns-clause-ok : goal.returns-clause-ok
returns-clause-ok g c =
    let means = g.K.Keeper.means in
    let here = c.loading.invariant in
    let within = here.within in
    let over = c.loading-test.false in
    let end : c.loading.index ≡ c.size-size.result = omega (arith, within, over) in
    all_loaded c.loading.index c.size-size.result c.loading.head (means c.loading.keeper) here.loaded end (here.count ∙ sym c.size-size.ensures.count)
    (told_on (λ rows. c.size-size.result ≡ length rows) (means c.args.keeper.now).rows (means c.loading.keeper).rows here.same c.size-size.ensures.rows)
