use Rattle.std.proofs.Common.{sym, subst}
use Rattle.pr_manager.specs.spec_world.Targets.{without_target}
use Rattle.pr_engine.specs.private.Knowing.{Knows, Tracked}
use Rattle.pr_engine.proofs.KnownTargets.{put_in}
use Rattle.pr_engine.proofs.scrape.targets.Targets.set.Goals as goal

pub returns : goal.returns
returns c = λ targets knows.
    let before = subst (λ (t : Tracked). Knows t (without_target targets c.args.target)) (sym c.self.view_is) knows in
    put_in c.self.inside.known.entries c.insert.new.self.entries targets c.args.target c.args.known before c.in_ok-insert.ensures.updates.0
