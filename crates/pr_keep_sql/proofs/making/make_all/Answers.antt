use Rattle.std.proofs.Common.{arith}
use Rattle.sqlite.specs.Held.{state}
use Rattle.sqlite.specs.State.{HasCleanDisk}
use Rattle.pr_keep_sql.proofs.RefusalLemmas.{made_in_turn}
use Rattle.pr_keep_sql.proofs.making.make_all.Goals as goal

pub returns-in-Ok-number-clause-ran : goal.returns-in-Ok-number-clause-ran
returns-in-Ok-number-clause-ran g c clean =
    let second : HasCleanDisk (state g.S.Store c.make_version.new.tx.conn.now) = omega (arith, c.number.ensures.clean, clean) in
    let first : HasCleanDisk (state g.S.Store c.make_kept.new.tx.conn.now) = omega (arith, c.make_version.ensures.clean, second) in
    made_in_turn g.S.Store c.args.tx.now.conn.now c.make_kept.new.tx.conn.now c.make_version.new.tx.conn.now c.number.new.tx.conn.now c.in-Ok.field-0 c.in-Ok-make_version.field-0 c.in-Ok-number.field-0
    (c.in-Ok.ensures.runs first) (c.in-Ok-make_version.ensures.runs second) (c.in-Ok-number.ensures.runs clean)
