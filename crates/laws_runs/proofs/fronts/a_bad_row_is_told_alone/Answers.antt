use Rattle.std.proofs.Common.{◌≡◌, refl, sym, arith}
use Rattle.pr_top.specs.pr_text.BadRows.{bad_row_text}
use Rattle.laws_runs.proofs.Lines.{none}
use Rattle.laws_runs.proofs.fronts.a_bad_row_is_told_alone.Goals as goal

pub returns-clause-part : goal.returns-clause-part
unfolding bad_row_text
returns-clause-part c = λ r. record { count = 5; text = refl; kept = refl; line = λ at is. absurd (cc) }

pub returns-clause-whole : goal.returns-clause-whole
unfolding bad_row_text
returns-clause-whole c =
    λ r. record { count = 10; text = rw none refl; kept = refl; line = λ at is. let same : 0 ≡ at = cc in (sym same, rw none (omega arith)) }

pub returns-clause-other : goal.returns-clause-other
returns-clause-other c = λ r start. absurd (omega (arith, (start.line 1 refl).0))
