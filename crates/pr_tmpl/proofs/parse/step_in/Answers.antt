use Rattle.std.proofs.Common.{sym, ◌∙◌}
use Rattle.pr_tmpl.proofs.TextKept.{brace_cuts}
use Rattle.pr_tmpl.proofs.parse.step_in.Goals as goal

pub returns-clause-text : goal.returns-clause-text
returns-clause-text c = λ e. brace_cuts c.in-Some.letter c.args.text.now c.in-Some.rest.now (rw c.in-Some.is at c.in_ok-letter.ensures.read) (sym c.is_open-brace.ensures ∙ e)
