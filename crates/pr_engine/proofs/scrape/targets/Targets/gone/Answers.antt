use Rattle.std.proofs.Common.{sym}
use Rattle.pr_engine.proofs.KnownTargets.{unknown_stays}
use Rattle.pr_engine.proofs.scrape.targets.Targets.gone.Goals as goal

pub returns-in-None-clause-targets : goal.returns-in-None-clause-targets
returns-in-None-clause-targets c = λ targets history knows holds.
    unknown_stays c.take.new.self targets history c.args.target.now c.args.time (sym (c.in-None.ensures.found targets knows)) (c.take.ensures.others targets knows)
