use Rattle.std.proofs.Common.{rules}
use Rattle.pr_range.specs.spec_vectors.Functions.{mapped}
use Rattle.pr_eval.specs.private.Besides.{result_beside}
use Rattle.pr_eval.proofs.values.vectors.each_beside.Goals as goal

pub returns-clause-answer : goal.returns-clause-answer
returns-clause-answer c =
    let f = result_beside c.args.beside.now in
    c.made_at.ensures.answer (mapped f c.args.items.now) (c.map_values-made.ensures.mapped f (record { gives = λ v r k. search rules }))
