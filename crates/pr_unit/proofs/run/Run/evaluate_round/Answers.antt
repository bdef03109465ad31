use Rattle.std.proofs.Common.{ℕ, ◌+◌, ◌<◌, ap, subst, refl, sym, map, length, arith}
use Rattle.spec_tests.specs.spec_world.Step.{world_after}
use Rattle.spec_tests.specs.Events.{eval_at}
use Rattle.spec_tests.specs.private.Rounds.{IsInRound}
use Rattle.pr_unit.specs.private.Kept.{StandsForWorld}
use Rattle.pr_unit.proofs.Runs.{round_run}
use Rattle.pr_unit.proofs.run.Run.evaluate_round.Goals as goal

pub returns-clause-run : goal.returns-clause-run
returns-clause-run g c = λ input gs s rounds now apart some within low later h.
    let r = c.args.self.now in
    round_run g.R.Ranges.fits g.R.Ranges.last g.R.Ranges.passed input c.args.every gs s rounds now r _ apart some within (omega (arith, c.requires))
    (λ more. let l : c.args.time < r.place = later more in omega (arith, c.requires)) h
    (record {
      stands = λ s1 w gs1 apart1 st start.
          subst (λ (t : ℕ). StandsForWorld g.R.Ranges.fits g.R.Ranges.last g.R.Ranges.passed c.evaluate_all.new.head c.evaluate_all.new.groups.items s1 (world_after s1 w (map (eval_at t) gs1))) c.requires
          (c.in_ok-evaluate_all.ensures.stands s1 w gs1 apart1 st (subst (λ (t : ℕ). IsInRound gs1 t 0 w) (sym c.requires) start));
      in_round = λ s1 w gs1 apart1 st start.
          subst (λ (t : ℕ). IsInRound gs1 t (length gs1) (world_after s1 w (map (eval_at t) gs1))) c.requires
          (c.in_ok-evaluate_all.ensures.round s1 w gs1 apart1 st (subst (λ (t : ℕ). IsInRound gs1 t 0 w) (sym c.requires) start));
      feed = refl;
      place = refl;
      left = refl;
      round = ap (λ n. r.round + n) c.get.ensures.value;
    })
