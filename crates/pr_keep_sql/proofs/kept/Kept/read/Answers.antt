use Rattle.std.proofs.Common.{ℕ, ◌^◌, ◌≤◌, IfSome, Option, subst, true≢false}
use Rattle.sqlite.specs.Held.{state}
use Rattle.pr_keep_sql.specs.private.Ran.{HasRead}
use Rattle.pr_keep_sql.specs.private.Refusals.{IsReadingRefused}
use Rattle.pr_keep_sql.proofs.RefusalLemmas.{counted_refusal}
use Rattle.pr_keep_sql.proofs.KeptLemmas.{read_found, read_kept, read_still}
use Rattle.pr_keep_sql.proofs.kept.Kept.read.Goals as goal

pub invariant_of-self : goal.invariant_of-self
invariant_of-self g c = record {
  mode = c.found.ensures.mode;
  still = read_still c.args.is_first (state g.S.Store c.self.inside.conn) (state g.S.Store c.found.new.conn) c.in-Ok-Some.size (rw (← c.self.view_is) at c.requires.first) (rw (← c.self.view_is) at c.requires.live)
      c.found.ensures.was_open c.found.ensures.same (λ clean has sound. rw c.in-Ok-Some.field-0-is at (c.in-Ok-Some.ensures.ok clean has sound));
  idle = λ e. absurd (true≢false e);
  small = subst (λ (o : Option ℕ). IfSome o (λ n. n ≤ 2 ^ 63)) c.in-Ok-Some.field-0-is c.in-Ok-Some.ensures.small;
}

pub returns-in-Ok-Some-clause-kept : goal.returns-in-Ok-Some-clause-kept
returns-in-Ok-Some-clause-kept g c clean first =
    rw (← c.self.view_is) (read_kept c.args.is_first (state g.S.Store c.self.inside.conn) (state g.S.Store c.found.new.conn) c.in-Ok-Some.size (rw (← c.self.view_is) at c.requires.first)
    (rw (← c.self.view_is) at c.requires.live) c.found.ensures.was_open c.found.ensures.same
    (λ clean has sound. rw c.in-Ok-Some.field-0-is at (c.in-Ok-Some.ensures.ok clean has sound)) c.in-Ok-Some.ensures.open clean first)

pub returns-in-Ok-Some-clause-found : goal.returns-in-Ok-Some-clause-found
returns-in-Ok-Some-clause-found g c clean first =
    rw (← c.self.view_is) (read_found c.args.is_first (state g.S.Store c.self.inside.conn) (state g.S.Store c.found.new.conn) c.in-Ok-Some.size (rw (← c.self.view_is) at c.requires.first)
    (rw (← c.self.view_is) at c.requires.live) c.found.ensures.was_open c.found.ensures.same
    (λ clean has sound. rw c.in-Ok-Some.field-0-is at (c.in-Ok-Some.ensures.ok clean has sound)) c.in-Ok-Some.ensures.open clean first)

pub returns-in-Err-clause-refused : goal.returns-in-Err-clause-refused
returns-in-Err-clause-refused g c clean =
    rw (← c.self.view_is) (counted_refusal (λ e. IsReadingRefused g.S.Store e c.self.inside.conn c.found.new.conn) c.in-Err.error c.refusal.result c.self.inside.refused c.refusal.new.refused c.refusal.ensures
    (λ _. c.in-Err.ensures.refused clean))

pub returns-in-Ok-Some-clause-ran : goal.returns-in-Ok-Some-clause-ran
returns-in-Ok-Some-clause-ran g c =
    rw (← c.self.view_is) (λ clean. subst (λ (o : Option ℕ). HasRead g.S.Store o c.self.inside.conn c.found.new.conn) c.in-Ok-Some.field-0-is (c.in-Ok-Some.ensures.ran clean))

pub returns-in-Ok-None-clause-odd_ran : goal.returns-in-Ok-None-clause-odd_ran
returns-in-Ok-None-clause-odd_ran g c =
    rw (← c.self.view_is) (λ clean rose. subst (λ (o : Option ℕ). HasRead g.S.Store o c.self.inside.conn c.found.new.conn) c.in-Ok-None.field-0-is (c.in-Ok-None.ensures.ran clean))
