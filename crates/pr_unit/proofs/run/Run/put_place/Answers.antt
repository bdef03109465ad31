use Rattle.std.proofs.Common.{◌≡◌, ◌+◌, List, ap, subst, ◌∙◌, refl, sym, arith}
use Rattle.spec_tests.specs.pr_testfile.declared.inputs.input.InputSeries.{InputSeries}
use Rattle.pr_slide.specs.pr_head.private.Intake.{HasTaken}
use Rattle.spec_tests.specs.pr_testfile.Series.{entries_at}
use Rattle.pr_unit.specs.private.Feeding.{HasFed}
use Rattle.pr_unit.proofs.Runs.{place_run}
use Rattle.pr_unit.proofs.run.Run.put_place.Goals as goal

pub returns-clause-run : goal.returns-clause-run
returns-clause-run g c = λ every gs s rounds now early low h.
    let same : c.as_slice.result.now ≡ c.args.input.now.series = c.as_slice.ensures in
    place_run g.R.Ranges.fits g.R.Ranges.last g.R.Ranges.passed c.a_kept_group_stays.ensures.keeps c.args.input.now every gs s rounds now c.args.self.now _ early (omega (arith, c.requires.time)) h
    (record {
      taken = λ interval place history fed at holds.
          subst (λ (ss : List InputSeries). HasTaken c.args.self.now.head c.put_place.new.head history (entries_at interval ss place)) same
          (c.in_ok-put_place.ensures.taken interval place history (subst (λ (ss : List InputSeries). HasFed ss place c.args.self.now.feed) (sym same) fed) (c.requires.time ∙ at) holds);
      fed = λ place fed.
          subst (λ (ss : List InputSeries). HasFed ss (place + 1) c.put_place.new.self) same
          (c.in_ok-put_place.ensures.fed place (subst (λ (ss : List InputSeries). HasFed ss place c.args.self.now.feed) (sym same) fed));
      groups = refl;
      place = ap (λ n. c.args.self.now.place + n) c.get.ensures.value;
      left = omega (arith, c.requires.some);
      round = refl;
    })
