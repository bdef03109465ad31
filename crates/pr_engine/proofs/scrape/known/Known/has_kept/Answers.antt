use Rattle.std.proofs.Common.{sym, ◌∙◌}
use Rattle.pr_engine.proofs.scrape.known.Known.has_kept.Goals as goal

pub returns : goal.returns
returns c = λ same. sym c.self.view_is ∙ c.are_same.ensures c.self.inside.tracked c.self.invariant same
