use Rattle.std.proofs.Common.{◌≡◌, arith, subst, sym, ◌∙◌}
use Rattle.sqlite.specs.Held.{state}
use Rattle.sqlite.specs.State.{HasCleanDisk}
use Rattle.pr_keep_sql.specs.private.Refusals.{IsTransactionRefused}
use Rattle.pr_keep_sql.specs.private.Texts.{inserts}
use Rattle.pr_keep_sql.specs.private.Ran.{HasRun}
use Rattle.pr_keep_sql.proofs.RanLemmas.{has_run}
use Rattle.pr_keep_sql.proofs.RefusalLemmas.{commit_stopped, stopped_back}
use Rattle.pr_keep_sql.specs.private.Statements.{Lasts}
use Rattle.pr_keep_sql.proofs.StateLemmas.{lasts_begun, lasts_by, lasts_then}
use Rattle.pr_keep_sql.proofs.statements.add_all.Goals as goal

pub returns-in-Err-clause-refused : goal.returns-in-Err-clause-refused
returns-in-Err-clause-refused g c clean =
    let orders = inserts c.args.size c.args.rows.now in
    let same : c.conn-in-Err-add_rows-1.given.0 ≡ c.drop-tx.new.self.0 = c.conn-in-Err-add_rows-1.given.1 (sym (c.add_rows.ensures.reference ∙ c.transaction-tx.ensures.same_reference)) in
    let new : HasCleanDisk (state g.S.Store c.drop-tx.new.self.0) = subst (λ h. HasCleanDisk (state g.S.Store h)) same clean in
    let last : HasCleanDisk (state g.S.Store c.add_rows.new.tx.conn.now) = omega (arith, c.drop-tx.ensures.survives.clean, new) in
    subst (λ h. IsTransactionRefused g.S.Store orders c.in-Err.error c.args.conn.now h) (sym same)
    (stopped_back g.S.Store orders c.in-Err.error c.args.conn.now c.transaction-tx.result.conn.now c.add_rows.new.tx.conn.now c.drop-tx.new.self.0 c.transaction-tx.ensures.begun
    (c.in-Err.ensures.stopped last) (c.drop-tx.ensures.undone new) c.drop-tx.ensures.survives.counts)

pub returns-in-Err-commit-clause-refused : goal.returns-in-Err-commit-clause-refused
returns-in-Err-commit-clause-refused g c clean =
    let orders = inserts c.args.size c.args.rows.now in
    let same : c.conn-1.given.0 ≡ c.commit.new.self.0 = c.conn-1.given.1 (sym (c.add_rows.ensures.reference ∙ c.transaction-tx.ensures.same_reference)) in
    let new : HasCleanDisk (state g.S.Store c.commit.new.self.0) = subst (λ h. HasCleanDisk (state g.S.Store h)) same clean in
    let last : HasCleanDisk (state g.S.Store c.add_rows.new.tx.conn.now) = omega (arith, c.commit.ensures.survives.clean, new) in
    subst (λ h. IsTransactionRefused g.S.Store orders c.in-Err-commit.error c.args.conn.now h) (sym same)
    (commit_stopped g.S.Store orders c.in-Err-commit.error c.args.conn.now c.transaction-tx.result.conn.now c.add_rows.new.tx.conn.now c.commit.new.self.0 c.transaction-tx.ensures.begun
    (c.in-Ok.ensures.ran last) (c.in-Err-commit.ensures.err new))

pub returns-in-Ok-commit-clause-ran : goal.returns-in-Ok-commit-clause-ran
returns-in-Ok-commit-clause-ran g c clean =
    let orders = inserts c.args.size c.args.rows.now in
    let same : c.conn-1.given.0 ≡ c.commit.new.self.0 = c.conn-1.given.1 (sym (c.add_rows.ensures.reference ∙ c.transaction-tx.ensures.same_reference)) in
    let new : HasCleanDisk (state g.S.Store c.commit.new.self.0) = subst (λ h. HasCleanDisk (state g.S.Store h)) same clean in
    let last : HasCleanDisk (state g.S.Store c.add_rows.new.tx.conn.now) = omega (arith, c.commit.ensures.survives.clean, new) in
    subst (λ h. HasRun g.S.Store orders c.args.conn.now h) (sym same)
    (has_run g.S.Store orders c.args.conn.now c.transaction-tx.result.conn.now c.add_rows.new.tx.conn.now c.commit.new.self.0 c.transaction-tx.ensures.begun
    (c.in-Ok.ensures.ran last) ((c.in-Ok-commit.ensures.ok new).1, (c.in-Ok-commit.ensures.ok new).2, (c.in-Ok-commit.ensures.ok new).3))

pub returns-in-Err-clause-lasts : goal.returns-in-Err-clause-lasts
returns-in-Err-clause-lasts g c =
    let old = state g.S.Store c.args.conn.now in
    let last = state g.S.Store c.add_rows.new.tx.conn.now in
    let new = state g.S.Store c.drop-tx.new.self.0 in
    let same : c.conn-in-Err-add_rows-1.given.0 ≡ c.drop-tx.new.self.0 = c.conn-in-Err-add_rows-1.given.1 (sym (c.add_rows.ensures.reference ∙ c.transaction-tx.ensures.same_reference)) in
    subst (λ h. Lasts old (state g.S.Store h)) (sym same)
    (lasts_then old last new c.drop-tx.ensures.survives.clean (lasts_begun g.S.Store c.args.conn.now c.transaction-tx.result.conn.now last c.transaction-tx.ensures.begun c.add_rows.ensures.lasts)
    (lasts_by last new _ c.drop-tx.ensures.survives))

pub returns-in-Err-commit-clause-lasts : goal.returns-in-Err-commit-clause-lasts
returns-in-Err-commit-clause-lasts g c =
    let old = state g.S.Store c.args.conn.now in
    let last = state g.S.Store c.add_rows.new.tx.conn.now in
    let new = state g.S.Store c.commit.new.self.0 in
    let same : c.conn-1.given.0 ≡ c.commit.new.self.0 = c.conn-1.given.1 (sym (c.add_rows.ensures.reference ∙ c.transaction-tx.ensures.same_reference)) in
    subst (λ h. Lasts old (state g.S.Store h)) (sym same)
    (lasts_then old last new c.commit.ensures.survives.clean (lasts_begun g.S.Store c.args.conn.now c.transaction-tx.result.conn.now last c.transaction-tx.ensures.begun c.add_rows.ensures.lasts)
    (lasts_by last new _ c.commit.ensures.survives))

pub returns-in-Ok-commit-clause-lasts : goal.returns-in-Ok-commit-clause-lasts
returns-in-Ok-commit-clause-lasts g c =
    let old = state g.S.Store c.args.conn.now in
    let last = state g.S.Store c.add_rows.new.tx.conn.now in
    let new = state g.S.Store c.commit.new.self.0 in
    let same : c.conn-1.given.0 ≡ c.commit.new.self.0 = c.conn-1.given.1 (sym (c.add_rows.ensures.reference ∙ c.transaction-tx.ensures.same_reference)) in
    subst (λ h. Lasts old (state g.S.Store h)) (sym same)
    (lasts_then old last new c.commit.ensures.survives.clean (lasts_begun g.S.Store c.args.conn.now c.transaction-tx.result.conn.now last c.transaction-tx.ensures.begun c.add_rows.ensures.lasts)
    (lasts_by last new _ c.commit.ensures.survives))
