use Rattle.std.proofs.Common.{length}
use Rattle.pr_ast.specs.Number.{digits}
use Rattle.pr_time.specs.pr_forms.Language.{Leads}
use Rattle.pr_ast.specs.private.Reader.{numbers}
use Rattle.pr_ast.proofs.lex.number.more_digits_in.Given as goal

abbrev pub invariant-loop-digit : goal.invariant-loop-digit
invariant-loop-digit l = Leads numbers digits l.text digits l.rest

abbrev pub decreases-loop-digit : goal.decreases-loop-digit
decreases-loop-digit l = length l.rest
