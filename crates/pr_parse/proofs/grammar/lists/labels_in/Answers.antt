use Rattle.std.proofs.Common.{ap}
use Rattle.pr_forms.specs.Run.{run_pair, run_second}
use Rattle.pr_forms.proofs.Ways.{value_is}
use Rattle.pr_parse.specs.Grammar.{labels}
use Rattle.pr_parse.proofs.grammar.lists.labels_in.Goals as goal

pub returns-in-Some-after-clause-read : goal.returns-in-Some-after-clause-read
returns-in-Some-after-clause-read c =
    value_is (labels c.in_ok-found.found.items c.in-Some-after.close) (labels c.new.result c.in-Some-after.close) (ap (λ ns. labels ns c.in-Some-after.close) c.new.ensures)
    (run_pair c.in-Some.ensures.read.gives (run_pair c.in_ok-found.ensures.read c.in-Some-after.ensures.read.gives))

pub returns-in-None-clause-read : goal.returns-in-None-clause-read
returns-in-None-clause-read c = run_second c.in-Some.ensures.read.gives (run_second c.in_ok-found.ensures.read c.in-None.ensures.read.gives)
