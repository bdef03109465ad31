use Rattle.std.proofs.Common.{ap}
use Rattle.pr_forms.specs.Run.{run_pair}
use Rattle.pr_forms.proofs.Ways.{value_is}
use Rattle.pr_parse.specs.Grammar.{match_text}
use Rattle.pr_parse.proofs.grammar.lists.matcher_in.Goals as goal

pub returns-clause-read : goal.returns-clause-read
returns-clause-read c = (
  c.in_ok-label.ensures,
  value_is (match_text c.in-Some.op c.in-Some-text_in.text.now) (match_text c.in-Some.op c.in_ok-text.text) (ap (match_text c.in-Some.op) c.in_ok-text.ensures)
      (run_pair c.in-Some.ensures.read.gives c.in-Some-text_in.ensures.read.gives),
)
