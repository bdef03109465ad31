use Rattle.std.proofs.Common.{subst, sym}
use Rattle.spec_meaning.specs.private.Laws.{IsAnswer}
use Rattle.pr_eval.proofs.Reading.{valued_rise}
use Rattle.pr_eval.proofs.selected.shown.Goals as goal

pub returns-clause-vector : goal.returns-clause-vector
returns-clause-vector g c = subst IsAnswer (sym c.vector.ensures) (valued_rise c.in_ok-spots.spots.items c.in_ok-items.items.items c.in_ok-items.ensures c.in_ok-spots.ensures.rising)
