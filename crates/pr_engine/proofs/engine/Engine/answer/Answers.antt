use Rattle.std.proofs.Common.{◌≡◌, ◌∙◌, ℕ, ◌+◌, ◌≤◌, Option, OnOk, false, true, ap, sym, subst}
use Rattle.pr_manager.specs.private.Naming.{passed_by_named}
use Rattle.pr_manager.specs.spec_world.private.Laws.{IsNotBefore}
use Rattle.pr_manager.specs.spec_world.Step.{Step, next, time_of}
use Rattle.pr_engine.specs.private.Causes.{last_after}
use Rattle.pr_engine.specs.private.Events.{event_cost, is_restart, settings_of}
use Rattle.pr_engine.specs.private.Passing.{EventPasses}
use Rattle.pr_engine.specs.private.Standing.{KeptEngine, KeepsBefore, StandsFor}
use Rattle.pr_engine.proofs.Answering.{keeps_before, refused_goes_on, refused_stays, some_stands, stands_answered}
use Rattle.pr_engine.proofs.Free.{refused_free}
use Rattle.pr_engine.proofs.Steps.{in_time, refused_in_time, refused_rows}
use Rattle.pr_engine.proofs.engine.Engine.answer.Goals as goal

pub returns-clause-some : goal.returns-clause-some
returns-clause-some g c = λ w stands.
    let R = g.R.Ranges in
    let means = g.K.Keeper.means in
    let k = c.self.inside in
    let e = c.args.event in
    let kept : KeptEngine g.row.R.Denot = record { parts = k.standing; step = k.step; last = k.last; broken = k.broken } in
    let here : StandsFor R.fits R.last R.passed kept (means c.args.keeper.now) w = subst (λ (x : KeptEngine g.row.R.Denot). StandsFor R.fits R.last R.passed x (means c.args.keeper.now) w) (sym c.self.view_is) stands in
    let late : IsNotBefore k.last (time_of e) = subst (λ (x : KeptEngine g.row.R.Denot). IsNotBefore x.last (time_of e)) (sym c.self.view_is) c.requires.in_time in
    let before : is_restart e ≡ false → KeepsBefore R.fits R.last R.passed k.step k.standing w (time_of e) =
    λ goes_on. keeps_before R.fits R.last R.passed kept (means c.args.keeper.now) w (time_of e) here (ap (λ (x : KeptEngine g.row.R.Denot). x.broken) c.self.view_is ∙ c.requires.whole goes_on) late in
    let last = c.last_after-self-inside.ensures ∙ ap (λ t. last_after k.last t c.answer-answer.result) c.time_of-time.ensures in
    let after : KeptEngine g.row.R.Denot = record { parts = c.answer-answer.new.self; step = k.step; last = c.last_after-self-inside.result; broken = c.broken_after-self-inside.result } in
    some_stands R.fits R.last R.passed c.answer-answer.result e after (means c.answer-answer.new.keeper) (next (settings_of k.step) w e).world c.answer-answer.ensures.anew
    (λ known. subst (λ l. OnOk c.answer-answer.result (StandsFor R.fits R.last R.passed (record after { last = l }) (means c.answer-answer.new.keeper) (next (settings_of k.step) w e).world)) (sym last)
    (stands_answered R.fits R.last R.passed c.answer-answer.result kept c.answer-answer.new.self (means c.args.keeper.now) (means c.answer-answer.new.keeper) w e c.broken_after-self-inside.result here late
    (c.answer-answer.ensures.report w here.tells before) (c.answer-answer.ensures.world w here.tells before known) (c.answer-answer.ensures.tells w here.tells before)))

pub returns-clause-reads : goal.returns-clause-reads
returns-clause-reads g c = λ w stands.
    let R = g.R.Ranges in
    let means = g.K.Keeper.means in
    let k = c.self.inside in
    let e = c.args.event in
    let kept : KeptEngine g.row.R.Denot = record { parts = k.standing; step = k.step; last = k.last; broken = k.broken } in
    let here : StandsFor R.fits R.last R.passed kept (means c.args.keeper.now) w = subst (λ (x : KeptEngine g.row.R.Denot). StandsFor R.fits R.last R.passed x (means c.args.keeper.now) w) (sym c.self.view_is) stands in
    let late : IsNotBefore k.last (time_of e) = subst (λ (x : KeptEngine g.row.R.Denot). IsNotBefore x.last (time_of e)) (sym c.self.view_is) c.requires.in_time in
    let before : is_restart e ≡ false → KeepsBefore R.fits R.last R.passed k.step k.standing w (time_of e) =
    λ goes_on. keeps_before R.fits R.last R.passed kept (means c.args.keeper.now) w (time_of e) here (ap (λ (x : KeptEngine g.row.R.Denot). x.broken) c.self.view_is ∙ c.requires.whole goes_on) late in
    subst (λ (x : KeptEngine g.row.R.Denot). c.answer-answer.new.reads ≤ c.args.reads.now + event_cost x.step (passed_by_named R.passed x.parts.manager w.history) w e) c.self.view_is
    (c.answer-answer.ensures.reads w before)

pub returns-clause-free : goal.returns-clause-free
returns-clause-free g c = λ w stands refused.
    let R = g.R.Ranges in
    let means = g.K.Keeper.means in
    let k = c.self.inside in
    let e = c.args.event in
    let kept : KeptEngine g.row.R.Denot = record { parts = k.standing; step = k.step; last = k.last; broken = k.broken } in
    let here : StandsFor R.fits R.last R.passed kept (means c.args.keeper.now) w = subst (λ (x : KeptEngine g.row.R.Denot). StandsFor R.fits R.last R.passed x (means c.args.keeper.now) w) (sym c.self.view_is) stands in
    let late : IsNotBefore k.last (time_of e) = subst (λ (x : KeptEngine g.row.R.Denot). IsNotBefore x.last (time_of e)) (sym c.self.view_is) c.requires.in_time in
    let before : is_restart e ≡ false → KeepsBefore R.fits R.last R.passed k.step k.standing w (time_of e) =
    λ goes_on. keeps_before R.fits R.last R.passed kept (means c.args.keeper.now) w (time_of e) here (ap (λ (x : KeptEngine g.row.R.Denot). x.broken) c.self.view_is ∙ c.requires.whole goes_on) late in
    let same = subst (λ (x : KeptEngine g.row.R.Denot). (next (settings_of x.step) w e).refused ≡ true) (sym c.self.view_is) refused in
    refused_free R.fits R.last R.passed kept (means c.args.keeper.now) w e c.args.reads.now c.answer-answer.new.reads here late same
    (c.answer-answer.ensures.reads w before)

pub returns-clause-passed : goal.returns-clause-passed
returns-clause-passed g c = λ w stands.
    let R = g.R.Ranges in
    let means = g.K.Keeper.means in
    let k = c.self.inside in
    let e = c.args.event in
    let kept : KeptEngine g.row.R.Denot = record { parts = k.standing; step = k.step; last = k.last; broken = k.broken } in
    let here : StandsFor R.fits R.last R.passed kept (means c.args.keeper.now) w = subst (λ (x : KeptEngine g.row.R.Denot). StandsFor R.fits R.last R.passed x (means c.args.keeper.now) w) (sym c.self.view_is) stands in
    let late : IsNotBefore k.last (time_of e) = subst (λ (x : KeptEngine g.row.R.Denot). IsNotBefore x.last (time_of e)) (sym c.self.view_is) c.requires.in_time in
    let before : is_restart e ≡ false → KeepsBefore R.fits R.last R.passed k.step k.standing w (time_of e) =
    λ goes_on. keeps_before R.fits R.last R.passed kept (means c.args.keeper.now) w (time_of e) here (ap (λ (x : KeptEngine g.row.R.Denot). x.broken) c.self.view_is ∙ c.requires.whole goes_on) late in
    let is = in_time k.step w e (subst (λ (l : Option ℕ). IsNotBefore l (time_of e)) here.last late) in
    subst (λ (x : KeptEngine g.row.R.Denot). OnOk c.answer-answer.result (EventPasses R.keeps x.step w e (passed_by_named R.passed x.parts.manager w.history)
    (passed_by_named R.passed c.answer-answer.new.self.manager (next (settings_of x.step) w e).world.history))) c.self.view_is
    (subst (λ (s : Step). OnOk c.answer-answer.result (EventPasses R.keeps k.step w e (passed_by_named R.passed k.standing.manager w.history) (passed_by_named R.passed c.answer-answer.new.self.manager s.world.history)))
    (sym is) (c.answer-answer.ensures.passed w before))

pub returns-clause-refused : goal.returns-clause-refused
returns-clause-refused g c = λ w stands refused.
    let R = g.R.Ranges in
    let means = g.K.Keeper.means in
    let k = c.self.inside in
    let e = c.args.event in
    let kept : KeptEngine g.row.R.Denot = record { parts = k.standing; step = k.step; last = k.last; broken = k.broken } in
    let here : StandsFor R.fits R.last R.passed kept (means c.args.keeper.now) w = subst (λ (x : KeptEngine g.row.R.Denot). StandsFor R.fits R.last R.passed x (means c.args.keeper.now) w) (sym c.self.view_is) stands in
    let late : IsNotBefore k.last (time_of e) = subst (λ (x : KeptEngine g.row.R.Denot). IsNotBefore x.last (time_of e)) (sym c.self.view_is) c.requires.in_time in
    let before : is_restart e ≡ false → KeepsBefore R.fits R.last R.passed k.step k.standing w (time_of e) =
    λ goes_on. keeps_before R.fits R.last R.passed kept (means c.args.keeper.now) w (time_of e) here (ap (λ (x : KeptEngine g.row.R.Denot). x.broken) c.self.view_is ∙ c.requires.whole goes_on) late in
    let later : IsNotBefore w.last (time_of e) = subst (λ (l : Option ℕ). IsNotBefore l (time_of e)) here.last late in
    let is = refused_in_time k.step w e later (subst (λ (x : KeptEngine g.row.R.Denot). (next (settings_of x.step) w e).refused ≡ true) (sym c.self.view_is) refused) in
    let goes_on = refused_goes_on k.step w e is in
    let b = before goes_on in
    let same = c.answer-answer.ensures.none w b goes_on (refused_rows k.step w e is) in
    let last = c.last_after-self-inside.ensures ∙ ap (λ t. last_after k.last t c.answer-answer.result) c.time_of-time.ensures in
    let after : KeptEngine g.row.R.Denot = record { parts = c.answer-answer.new.self; step = k.step; last = c.last_after-self-inside.result; broken = c.broken_after-self-inside.result } in (
      same,
      subst (λ (x : KeptEngine g.row.R.Denot). OnOk c.answer-answer.result ((after ≡ x) × StandsFor R.fits R.last R.passed after (means c.answer-answer.new.keeper) w)) c.self.view_is
          (refused_stays R.fits R.last R.passed c.answer-answer.result kept c.answer-answer.new.self (means c.args.keeper.now) (means c.answer-answer.new.keeper) w e c.last_after-self-inside.result c.broken_after-self-inside.result
          here (ap means same) later (c.answer-answer.ensures.report w here.tells before) is (c.answer-answer.ensures.refused w b goes_on is) last c.broken_after-self-inside.ensures),
    )
