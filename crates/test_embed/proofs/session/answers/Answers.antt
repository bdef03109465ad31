use Rattle.std.proofs.Common.{◌≡◌, ◌∷◌, ◌∙◌, List, length, sym, subst, arith}
use Rattle.spec_world.specs.declared.event.Event.{Event}
use Rattle.spec_world.specs.declared.report.Report.{Report}
use Rattle.test_embed.specs.private.Answers.{HaveDistinctFiles}
use Rattle.test_embed.proofs.Answered.{Answered, answered_all, answered_none, answered_on}
use Rattle.test_embed.proofs.session.answers.Goals as goal

pub loop-event-init : goal.loop-event-init
loop-event-init g c =
    let store = g.K.Keeper.means in
    let same = sym c.into_iter-event-iterator.ensures.into_iter_gives.0 in
    record {
      answered = λ some. subst (λ (es : List Event). Answered g.R.Ranges.fits g.R.Ranges.last g.R.Ranges.passed c.args.step (store c.args.keeper.now) c.args.events.items es c.new-reports.result.items c.in_ok-engine.engine (store c.start.new.keeper)) same
          (subst (λ (rs : List Report). Answered g.R.Ranges.fits g.R.Ranges.last g.R.Ranges.passed c.args.step (store c.args.keeper.now) c.args.events.items c.args.events.items rs c.in_ok-engine.engine (store c.start.new.keeper)) (sym {A = List Report} c.new-reports.ensures.items)
          (answered_none g.R.Ranges.fits g.R.Ranges.last g.R.Ranges.passed c.args.step (store c.args.keeper.now) c.args.events.items c.in_ok-engine.engine (store c.start.new.keeper) c.in_ok-engine.ensures.starts c.in_ok-engine.ensures.rows some));
      tells = c.in_ok-engine.ensures.tells;
      files = subst HaveDistinctFiles same c.requires.files;
      step = c.in_ok-engine.ensures.step;
      calm = c.in_ok-engine.ensures.cause;
    }

pub loop-event-preserved : goal.loop-event-preserved
loop-event-preserved g c =
    let store = g.K.Keeper.means in
    let at = c.loop-event in
    let new = c.next.new.self.rest.items in
    let parts : at.event-iterator.rest.items ≡ c.in-Some.event ∷ new = c.in-Some.ensures.steps.0 in
    record {
      answered = λ some.
          let here = subst (λ (es : List Event). Answered g.R.Ranges.fits g.R.Ranges.last g.R.Ranges.passed c.args.step (store c.args.keeper.now) c.args.events.items es at.reports.items at.engine (store at.keeper)) parts
          (at.invariant.answered (c.in_ok-report.ensures.told some)) in
          subst (λ (rs : List Report). Answered g.R.Ranges.fits g.R.Ranges.last g.R.Ranges.passed c.args.step (store c.args.keeper.now) c.args.events.items new rs c.answer.new.engine (store c.answer.new.keeper)) (sym {A = List Report} c.in_ok-put.ensures.put)
          (answered_on g.R.Ranges.fits g.R.Ranges.last g.R.Ranges.passed c.args.step (store c.args.keeper.now) c.args.events.items c.in-Some.event new at.reports.items c.in_ok-report.report at.engine c.answer.new.engine (store at.keeper) (store c.answer.new.keeper)
          here at.invariant.step (c.in_ok-report.ensures.report here.world here.stands) (c.in_ok-report.ensures.world here.world here.stands some));
      tells = λ sound. c.in_ok-report.ensures.tells sound (at.invariant.tells (c.in_ok-report.ensures.sound sound));
      files = (subst HaveDistinctFiles parts at.invariant.files).1;
      step = c.in_ok-report.ensures.step ∙ at.invariant.step;
      calm = c.in_ok-report.ensures.cause ∙ at.invariant.calm;
    }

pub returns-clause-answers : goal.returns-clause-answers
returns-clause-answers g c = λ some.
    let at = c.loop-event in
    let rest = at.event-iterator.rest.items in
    let none : length rest ≡ 0 = omega (arith, at.event-iterator.rest.ok.0, c.in-None.ensures.steps.0) in
    answered_all g.R.Ranges.fits g.R.Ranges.last g.R.Ranges.passed c.args.step (g.K.Keeper.means c.args.keeper.now) c.args.events.items rest at.reports.items at.engine (g.K.Keeper.means at.keeper) none (at.invariant.answered some)
