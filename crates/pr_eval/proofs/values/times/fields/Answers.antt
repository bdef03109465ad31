use Rattle.std.proofs.Common.{rules, Ok}
use Rattle.pr_range.specs.spec_vectors.Calendar.{calendar_of}
use Rattle.pr_range.specs.spec_vectors.Functions.{ValueFunction, mapped}
use Rattle.pr_eval.proofs.values.times.fields.Goals as goal

pub returns-clause-answer : goal.returns-clause-answer
returns-clause-answer c =
    let f : ValueFunction = λ v. Ok (calendar_of c.args.part v) in
    c.made_at.ensures.answer (mapped f c.args.items.now) (c.map_values-made.ensures.mapped f (record { gives = λ v r k. search rules }))
