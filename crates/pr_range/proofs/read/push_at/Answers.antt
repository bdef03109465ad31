use Rattle.std.proofs.Common.{ap, ◌∙◌, ◌++◌}
use Rattle.std.proofs.lemmas.Result.{on_ok_weaker}
use Rattle.pr_range.proofs.Between.{read_some, read_none}
use Rattle.pr_range.proofs.read.push_at.Goals as goal

pub returns-in-Some-clause-spots : goal.returns-in-Some-clause-spots
returns-in-Some-clause-spots g c = λ e at low high.
    on_ok_weaker c.push_spot.result (λ k. k ∙ ap (λ l. c.args.spots.now.items ++ l) (read_some c.args.head.now c.args.series c.args.place c.in-Some.sample e at low high c.in-Some.ensures.value)) c.push_spot.ensures

pub returns-in-None-clause-spots : goal.returns-in-None-clause-spots
returns-in-None-clause-spots g c = λ e at low high. read_none c.args.head.now c.args.series c.args.place e at low high c.in-None.ensures.value
