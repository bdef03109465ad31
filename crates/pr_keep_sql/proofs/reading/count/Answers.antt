use Rattle.std.proofs.Common.{not, ap, subst, sym, ◌∙◌}
use Rattle.std.proofs.lemmas.Option.{IfSome_then}
use Rattle.sqlite.specs.Held.{state}
use Rattle.pr_keep_sql.specs.private.Found.{AreFound}
use Rattle.pr_keep_sql.specs.private.Ran.{IsCount}
use Rattle.pr_keep_sql.proofs.FoundLemmas.{count_found}
use Rattle.pr_keep_sql.proofs.RanLemmas.{count_is, some_count}
use Rattle.pr_keep_sql.proofs.OrderLemmas.{rows_in_order}
use Rattle.pr_keep_sql.specs.private.Texts.{rows_text}
use Rattle.pr_keep_sql.proofs.QueryTexts.{rows_only_read}
use Rattle.pr_keep_sql.proofs.StateLemmas.{fails_open, fails_same, shown_open, shown_same}
use Rattle.pr_keep_sql.proofs.reading.count.Goals as goal

pub returns-in_err-found-clause-was_open : goal.returns-in_err-found-clause-was_open
returns-in_err-found-clause-was_open g c clean =
    fails_open _ _ (state g.S.Store c.args.conn.now) (state g.S.Store c.query_all.new.self) _ (c.is_autocommit.ensures.settled (c.is_autocommit.ensures.value ∙ ap not c.requires.mode)) (c.in_err-found.ensures.err clean)

pub returns-in_err-found-clause-same : goal.returns-in_err-found-clause-same
returns-in_err-found-clause-same g c clean =
    fails_same _ _ (state g.S.Store c.args.conn.now) (state g.S.Store c.query_all.new.self) _ (c.is_autocommit.ensures.settled (c.is_autocommit.ensures.value ∙ ap not c.requires.mode)) (c.in_err-found.ensures.err clean)

pub returns-clause-ok : goal.returns-clause-ok
returns-clause-ok g c clean has number sound =
    IfSome_then c.counted.result (count_is c.as_slice.result.now c.counted.result c.counted.ensures.count)
    (λ n f. count_found (state g.S.Store c.args.conn.now) (state g.S.Store c.query_all.new.self) c.as_slice.result.now _ n has number sound (c.in_ok-found.ensures.ok clean) c.as_slice.ensures.value f.0 f.1)

pub returns-clause-all : goal.returns-clause-all
returns-clause-all g c clean has rows table =
    some_count c.as_slice.result.now c.counted.result c.counted.ensures.count (subst (AreFound 0) (sym c.as_slice.ensures.value) (rows_in_order (state g.S.Store c.args.conn.now) (state g.S.Store c.query_all.new.self) rows _ has (c.in_ok-found.ensures.ok clean) table))

pub returns-clause-shown : goal.returns-clause-shown
returns-clause-shown g c clean = (c.in_ok-found.found.items, c.in_ok-found.ensures.ok clean, subst (λ rows. IsCount rows c.counted.result) c.as_slice.ensures.value c.counted.ensures.count)

pub returns-clause-was_open : goal.returns-clause-was_open
returns-clause-was_open g c clean up = shown_open rows_text _ (state g.S.Store c.args.conn.now) (state g.S.Store c.query_all.new.self) _ (c.in_ok-found.ensures.ok clean)

pub returns-clause-same : goal.returns-clause-same
returns-clause-same g c clean up = (shown_same rows_text _ (state g.S.Store c.args.conn.now) (state g.S.Store c.query_all.new.self) _ rows_only_read (c.in_ok-found.ensures.ok clean)).0.now_is

pub returns-clause-open : goal.returns-clause-open
returns-clause-open g c clean = (shown_same rows_text _ (state g.S.Store c.args.conn.now) (state g.S.Store c.query_all.new.self) _ rows_only_read (c.in_ok-found.ensures.ok clean)).0.is_open
