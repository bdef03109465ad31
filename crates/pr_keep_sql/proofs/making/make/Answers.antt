use Rattle.std.proofs.Common.{◌≡◌, arith, subst, sym, ◌∙◌}
use Rattle.sqlite.specs.Held.{state}
use Rattle.sqlite.specs.State.{HasCleanDisk}
use Rattle.pr_keep_sql.specs.private.Refusals.{IsTransactionRefused}
use Rattle.pr_keep_sql.specs.private.Texts.{makings}
use Rattle.pr_keep_sql.specs.private.Ran.{HasRun}
use Rattle.pr_keep_sql.proofs.RanLemmas.{has_run}
use Rattle.pr_keep_sql.proofs.RefusalLemmas.{commit_stopped, stopped_back}
use Rattle.pr_keep_sql.proofs.making.make.Goals as goal

pub returns-in-Err-clause-refused : goal.returns-in-Err-clause-refused
returns-in-Err-clause-refused g c clean =
    let orders = makings in
    let same : c.conn-in-Err-make_all-1.given.0 ≡ c.drop-tx.new.self.0 = c.conn-in-Err-make_all-1.given.1 (sym (c.make_all.ensures.reference ∙ c.transaction-tx.ensures.same_reference)) in
    let new : HasCleanDisk (state g.S.Store c.drop-tx.new.self.0) = subst (λ h. HasCleanDisk (state g.S.Store h)) same clean in
    let last : HasCleanDisk (state g.S.Store c.make_all.new.tx.conn.now) = omega (arith, c.drop-tx.ensures.survives.clean, new) in
    subst (λ h. IsTransactionRefused g.S.Store orders c.in-Err.error c.args.conn.now h) (sym same)
    (stopped_back g.S.Store orders c.in-Err.error c.args.conn.now c.transaction-tx.result.conn.now c.make_all.new.tx.conn.now c.drop-tx.new.self.0 c.transaction-tx.ensures.begun
    (c.in-Err.ensures.stopped last) (c.drop-tx.ensures.undone new) c.drop-tx.ensures.survives.counts)

pub returns-in-Err-commit-clause-refused : goal.returns-in-Err-commit-clause-refused
returns-in-Err-commit-clause-refused g c clean =
    let orders = makings in
    let same : c.conn-1.given.0 ≡ c.commit.new.self.0 = c.conn-1.given.1 (sym (c.make_all.ensures.reference ∙ c.transaction-tx.ensures.same_reference)) in
    let new : HasCleanDisk (state g.S.Store c.commit.new.self.0) = subst (λ h. HasCleanDisk (state g.S.Store h)) same clean in
    let last : HasCleanDisk (state g.S.Store c.make_all.new.tx.conn.now) = omega (arith, c.commit.ensures.survives.clean, new) in
    subst (λ h. IsTransactionRefused g.S.Store orders c.in-Err-commit.error c.args.conn.now h) (sym same)
    (commit_stopped g.S.Store orders c.in-Err-commit.error c.args.conn.now c.transaction-tx.result.conn.now c.make_all.new.tx.conn.now c.commit.new.self.0 c.transaction-tx.ensures.begun
    (c.in-Ok.ensures.ran last) (c.in-Err-commit.ensures.err new))

pub returns-in-Ok-commit-clause-ran : goal.returns-in-Ok-commit-clause-ran
returns-in-Ok-commit-clause-ran g c clean =
    let orders = makings in
    let same : c.conn-1.given.0 ≡ c.commit.new.self.0 = c.conn-1.given.1 (sym (c.make_all.ensures.reference ∙ c.transaction-tx.ensures.same_reference)) in
    let new : HasCleanDisk (state g.S.Store c.commit.new.self.0) = subst (λ h. HasCleanDisk (state g.S.Store h)) same clean in
    let last : HasCleanDisk (state g.S.Store c.make_all.new.tx.conn.now) = omega (arith, c.commit.ensures.survives.clean, new) in
    subst (λ h. HasRun g.S.Store orders c.args.conn.now h) (sym same)
    (has_run g.S.Store orders c.args.conn.now c.transaction-tx.result.conn.now c.make_all.new.tx.conn.now c.commit.new.self.0 c.transaction-tx.ensures.begun
    (c.in-Ok.ensures.ran last) ((c.in-Ok-commit.ensures.ok new).1, (c.in-Ok-commit.ensures.ok new).2, (c.in-Ok-commit.ensures.ok new).3))
