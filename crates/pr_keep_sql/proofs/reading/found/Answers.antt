use Rattle.std.proofs.Common.{arith, sym, ◌∙◌, true≢false}
use Rattle.sqlite.specs.Held.{state}
use Rattle.sqlite.specs.State.{HasCleanDisk}
use Rattle.pr_keep_sql.proofs.RanLemmas.{other_read, rows_read}
use Rattle.pr_keep_sql.proofs.RefusalLemmas.{rows_refused}
use Rattle.pr_keep_sql.proofs.reading.found.Goals as goal

pub returns-in-Ok-true-clause-refused : goal.returns-in-Ok-true-clause-refused
returns-in-Ok-true-clause-refused g c clean =
    let mid : HasCleanDisk (state g.S.Store c.is_numbered.new.conn) = omega (arith, c.count.ensures.clean, clean) in
    rows_refused g.S.Store c.count.result c.args.conn.now c.is_numbered.new.conn c.count.new.conn ((c.in-Ok-true.ensures.shown mid).0, (c.in-Ok-true.ensures.shown mid).1) (c.count.ensures.refused clean)

pub returns-in-Ok-true-clause-ran : goal.returns-in-Ok-true-clause-ran
returns-in-Ok-true-clause-ran g c clean =
    let mid : HasCleanDisk (state g.S.Store c.is_numbered.new.conn) = omega (arith, c.count.ensures.clean, clean) in
    let first = c.in-Ok-true.ensures.shown mid in
    rows_read g.S.Store c.count.result c.args.conn.now c.is_numbered.new.conn c.count.new.conn first.0 first.1 (first.2.0 c.in-Ok-true.field-0-test) (c.count.ensures.shown clean)

pub returns-in-Ok-false-clause-ran : goal.returns-in-Ok-false-clause-ran
returns-in-Ok-false-clause-ran g c clean =
    let first = c.in-Ok-false.ensures.shown clean in
    other_read g.S.Store c.args.conn.now c.is_numbered.new.conn first.0 first.1 (λ is. true≢false (sym (first.2.1 is) ∙ c.in-Ok-false.field-0-test))
