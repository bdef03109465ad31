use Rattle.std.proofs.Common.{sym, subst}
use Rattle.pr_engine.specs.private.Knowing.{Knows, Tracked}
use Rattle.pr_engine.proofs.KnownTargets.{taken_out}
use Rattle.pr_engine.proofs.scrape.targets.Targets.take.Goals as goal

pub returns-clause-others : goal.returns-clause-others
returns-clause-others c = λ targets knows.
    let before = subst (λ (t : Tracked). Knows t targets) (sym c.self.view_is) knows in
    taken_out c.self.inside.known.entries c.swap_remove.new.self.entries targets c.args.target.now before c.swap_remove.ensures.updates.0
