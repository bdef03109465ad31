use Rattle.std.proofs.Common.{◌+◌, sym, subst}
use Rattle.pr_exercise.specs.private.Turns.{AreWithin}
use Rattle.pr_exercise.proofs.Turns.{within_after}
use Rattle.pr_exercise.proofs.targets.Targets.round.Goals as goal

pub returns-clause-small : goal.returns-clause-small
returns-clause-small c =
    let t = c.args.self.now in
    subst (AreWithin (c.args.round + 1)) (sym c.in_ok-scrape.ensures.counts) (within_after c.time_of-time.result 0 t.number c.args.round t.counts.items c.requires.small)
