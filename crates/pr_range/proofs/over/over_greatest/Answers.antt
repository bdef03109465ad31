use Rattle.std.proofs.Common.{refl, sym}
use Rattle.pr_range.proofs.over.over_greatest.Goals as goal

pub returns-clause-answer : goal.returns-clause-answer
returns-clause-answer c = c.answer_from_extreme.ensures.greatest c.args.ask.now c.args.spots.now c.requires refl (sym c.fold_by_next-value.ensures)
