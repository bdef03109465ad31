use Rattle.std.proofs.Common.{◌≡◌, sym}
use Rattle.pr_range.specs.spec_vectors.declared.range.RangeFn.TheVariants.{MinOverTime}
use Rattle.pr_slide.proofs.spots.answer_least.Goals as goal

pub returns-in-MinOverTime-clause-answer : goal.returns-in-MinOverTime-clause-answer
returns-in-MinOverTime-clause-answer g c = λ within.
    let func : c.args.ask.now.func ≡ MinOverTime = cc (c.in-MinOverTime.is) in
    c.answer_from_extreme.ensures.least c.args.ask.now c.args.spots.now.items func (sym c.len.ensures) (sym c.summary.ensures.value)
