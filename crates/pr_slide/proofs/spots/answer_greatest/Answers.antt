use Rattle.std.proofs.Common.{◌≡◌, sym}
use Rattle.pr_range.specs.spec_vectors.declared.range.RangeFn.TheVariants.{MaxOverTime}
use Rattle.pr_slide.proofs.spots.answer_greatest.Goals as goal

pub returns-in-MaxOverTime-clause-answer : goal.returns-in-MaxOverTime-clause-answer
returns-in-MaxOverTime-clause-answer g c = λ within.
    let func : c.args.ask.now.func ≡ MaxOverTime = cc (c.in-MaxOverTime.is) in
    c.answer_from_extreme.ensures.greatest c.args.ask.now c.args.spots.now.items func (sym c.len.ensures) (sym c.summary.ensures.value)
