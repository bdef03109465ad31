use Rattle.std.proofs.Common.{◌≡◌, ◌∙◌, ℕ, List, Option, Some, length, sym, ap, subst}
use Rattle.pr_outside.specs.Asks.{Asks}
use Rattle.pr_outside.specs.Outside.{AreTold, Outside}
use Rattle.pr_text.specs.spec_world.Loading.{reload_asked}
use Rattle.pr_text.specs.spec_world.private.Laws.{IsNotBefore}
use Rattle.pr_text.specs.spec_world.Settings.{of_a_run}
use Rattle.pr_text.specs.spec_world.Step.{Step}
use Rattle.pr_run.specs.private.Keeping.{Run}
use Rattle.pr_run.specs.private.Standing.{WorldGives}
use Rattle.pr_run.specs.Told.{asks_for, content_by}
use Rattle.pr_run.proofs.Answering.{backwards_files, in_time_asks}
use Rattle.pr_run.proofs.Loads.{asks_none}
use Rattle.pr_run.proofs.Tellings.{keeps_same}
use Rattle.pr_run.proofs.session.Session.take_reload.Goals as goal

pub returns-in-Some-clause-gives : goal.returns-in-Some-clause-gives
returns-in-Some-clause-gives g c = λ others held w s told some.
    let store = g.K.Keeper.means c.args.keeper.now in
    let calls = (g.F.Files.means c.args.files.now).calls in
    let t = subst (λ (r : Run _). g.E.Worlds.stands_for r.kept store w) (sym c.self.view_is) s in
    let is : w.last ≡ Some c.in-Some.last = sym (c.last.ensures store w t) ∙ c.in-Some.ensures.some.0 in
    let e = backwards_files held w c.args.time c.in-Some.last c.args.names.now is c.in-Some.ensures.some.1 in (
      sym (ap (λ (x : Step). x.report) e.0),
      subst (λ (x : Step). g.E.Worlds.stands_for c.args.self.now.kept store x.world) (sym e.0) s,
      subst (λ (l : List (List ℕ)). Asks calls calls (length l)) (sym e.1) (asks_none calls),
    )

pub returns-in-None-clause-gives : goal.returns-in-None-clause-gives
returns-in-None-clause-gives g c = λ others held w s told some.
    let files = g.F.Files.means in
    let keeper = g.K.Keeper.means in
    let store = keeper c.args.keeper.now in
    let t = subst (λ (r : Run _). g.E.Worlds.stands_for r.kept store w) (sym c.self.view_is) s in
    let in_time : IsNotBefore w.last c.args.time = subst (λ (l : Option ℕ). IsNotBefore l c.args.time) (c.last.ensures store w t) c.in-None.ensures.none in
    let same = in_time_asks w.last c.args.time (asks_for (content_by held) c.args.names.now) in_time in
    let a : Outside = record others { files = files c.args.files.now; store = store } in
    let d : Outside = record others { files = files c.take_files.new.files; store = keeper c.take_files.new.keeper } in
    subst (λ (l : List (List ℕ)). WorldGives g.E.Worlds.stands_for w (reload_asked of_a_run w c.args.time (content_by held) c.args.names.now) (length l) a d c.take_files.new.self.kept c.take_files.result)
    (sym same)
    (c.take_files.ensures.gives others held w s in_time (subst (AreTold (files c.args.files.now).content held) same told) some)

-- told rows stay told, and what answers goes on

pub returns-in-Some-clause-tells : goal.returns-in-Some-clause-tells
returns-in-Some-clause-tells g c = keeps_same _ (g.K.Keeper.means c.args.keeper.now) _
