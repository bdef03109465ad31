use Rattle.std.proofs.Common.{map, not, ap, sym, ◌∙◌}
use Rattle.sqlite.specs.Held.{state}
use Rattle.pr_keep_sql.specs.private.Texts.{numbers_text}
use Rattle.pr_keep_sql.proofs.QueryLemmas.{first_cell, numbers_found, numbers_shown}
use Rattle.pr_keep_sql.proofs.QueryTexts.{numbers_only_read}
use Rattle.pr_keep_sql.proofs.StateLemmas.{fails_open, fails_same, shown_open, shown_same}
use Rattle.pr_keep_sql.proofs.reading.is_numbered.Goals as goal

pub returns-in_err-found-clause-was_open : goal.returns-in_err-found-clause-was_open
returns-in_err-found-clause-was_open g c clean =
    fails_open _ _ (state g.S.Store c.args.conn.now) (state g.S.Store c.query_all.new.self) _ (c.is_autocommit.ensures.settled (c.is_autocommit.ensures.value ∙ ap not c.requires.mode)) (c.in_err-found.ensures.err clean)

pub returns-in_err-found-clause-same : goal.returns-in_err-found-clause-same
returns-in_err-found-clause-same g c clean =
    fails_same _ _ (state g.S.Store c.args.conn.now) (state g.S.Store c.query_all.new.self) _ (c.is_autocommit.ensures.settled (c.is_autocommit.ensures.value ∙ ap not c.requires.mode)) (c.in_err-found.ensures.err clean)

pub returns-clause-ok : goal.returns-clause-ok
returns-clause-ok g c clean has =
    let shown = c.in_ok-found.ensures.ok clean in (
      λ is. numbers_found (state g.S.Store c.args.conn.now) (state g.S.Store c.query_all.new.self) _ has shown (ap (map first_cell) (sym c.as_slice.ensures.value) ∙ c.are_one.ensures.0 is),
      λ is. c.are_one.ensures.1 (ap (map first_cell) c.as_slice.ensures.value ∙ numbers_shown (state g.S.Store c.args.conn.now) (state g.S.Store c.query_all.new.self) _ has shown is),
    )

pub returns-clause-was_open : goal.returns-clause-was_open
returns-clause-was_open g c clean up = shown_open numbers_text _ (state g.S.Store c.args.conn.now) (state g.S.Store c.query_all.new.self) _ (c.in_ok-found.ensures.ok clean)

pub returns-clause-same : goal.returns-clause-same
returns-clause-same g c clean up = (shown_same numbers_text _ (state g.S.Store c.args.conn.now) (state g.S.Store c.query_all.new.self) _ numbers_only_read (c.in_ok-found.ensures.ok clean)).0.now_is

pub returns-clause-open : goal.returns-clause-open
returns-clause-open g c clean = (shown_same numbers_text _ (state g.S.Store c.args.conn.now) (state g.S.Store c.query_all.new.self) _ numbers_only_read (c.in_ok-found.ensures.ok clean)).0.is_open

pub returns-clause-shown : goal.returns-clause-shown
returns-clause-shown g c clean = (
  c.in_ok-found.found.items,
  c.in_ok-found.ensures.ok clean,
  (λ is. ap (map first_cell) (sym c.as_slice.ensures.value) ∙ c.are_one.ensures.0 is, λ is. c.are_one.ensures.1 (ap (map first_cell) c.as_slice.ensures.value ∙ is)),
)
