use Rattle.std.proofs.Common.{ap}
use Rattle.pr_forms.specs.Run.{run_pair}
use Rattle.pr_forms.proofs.Ways.{value_is}
use Rattle.pr_parse.specs.Grammar.{ended}
use Rattle.pr_parse.proofs.grammar.lists.braces_in.Goals as goal

pub returns-in-Some-clause-read : goal.returns-in-Some-clause-read
returns-in-Some-clause-read c = (
  c.in-Some.close,
  value_is (ended c.in_ok-found.found.items c.in-Some.close) (ended c.new.result c.in-Some.close) (ap (λ ms. ended ms c.in-Some.close) c.new.ensures) (run_pair c.in_ok-found.ensures.read c.in-Some.ensures.read.gives),
  c.through.ensures,
)
