use Rattle.std.proofs.Common.{◌≡◌, List, ap, subst, ◌∙◌, refl}
use Rattle.spec_tests.specs.pr_testfile.declared.inputs.input.InputSeries.{InputSeries}
use Rattle.spec_tests.specs.pr_testfile.Series.{places}
use Rattle.pr_unit.specs.private.Feeding.{HasFed}
use Rattle.pr_unit.proofs.Runs.{run_begins}
use Rattle.pr_unit.proofs.run.Run.begin.Goals as goal

pub returns : goal.returns
returns g c = λ every gs s rounds now new keeps.
    let same : c.as_slice-series.result.now ≡ c.args.input.now.series = c.as_slice-series.ensures in
    run_begins g.R.Ranges.fits g.R.Ranges.last g.R.Ranges.passed c.args.input.now every gs s rounds now _ new keeps c.new.ensures.holds c.new.ensures.whole
    (subst (λ (ss : List InputSeries). HasFed ss 0 c.in_ok-new.field-0) same c.in_ok-new.ensures) refl (c.places.ensures ∙ ap places same) refl
