use Rattle.std.proofs.Common.{◌≡◌, ◌∙◌, List, Result, Ok, Err, IfOk, length, refl, sym, ap, subst}
use Rattle.pr_outside.specs.Asks.{AsksBy}
use Rattle.pr_outside.specs.Outside.{AreTold, Outside}
use Rattle.pr_outside.proofs.Ended.{ends_on, in_time_same}
use Rattle.pr_text.specs.spec_world.Loading.{FileToLoad, all_found, reload_asked}
use Rattle.pr_text.specs.spec_world.Settings.{of_a_run}
use Rattle.pr_text.specs.spec_world.Step.{Step, next}
use Rattle.pr_text.specs.spec_world.declared.event.Event.TheVariants as event
use Rattle.pr_text.specs.spec_world.declared.event.NamedFile.{NamedFile}
use Rattle.pr_text.specs.spec_world.declared.report.Report.{Report}
use Rattle.pr_run.specs.private.Files.{HasNames}
use Rattle.pr_outside.specs.Stores.{IsBadIn}
use Rattle.pr_run.specs.private.Standing.{WorldGives}
use Rattle.pr_run.specs.Told.{asks_for, content_by}
use Rattle.pr_run.proofs.Answering.{distinct_loaded, found_files, gives_behind, load_gives, refused_files}
use Rattle.pr_outside.proofs.Endings.{ends_behind, ends_wider}
use Rattle.pr_run.proofs.Tellings.{keeps_same}
use Rattle.pr_run.proofs.session.Session.take_files.Goals as goal

pub returns-in_err-files-clause-gives : goal.returns-in_err-files-clause-gives
returns-in_err-files-clause-gives g c = λ others held w s in_time told some.
    let content = (g.F.Files.means c.args.files.now).content in
    load_gives g.E.Worlds.stands_for w (reload_asked of_a_run w c.args.time (content_by held) c.args.names.now) c.args.self.now.kept (Result (List NamedFile) Report) others (g.F.Files.means c.args.files.now)
    (g.F.Files.means c.load_files.new.from) (g.K.Keeper.means c.args.keeper.now) (length (asks_for (content_by held) c.args.names.now)) c.from_residual.result c.in_err-files.field-0.0 c.from_residual.ensures.1
    (g.met.E.Worlds.tells c.args.self.now.kept (g.K.Keeper.means c.args.keeper.now) w s)
    (subst (λ (l : List FileToLoad). AreTold content held (asks_for (content_by held) l)
    → AsksBy {T = Result (List NamedFile) Report} (g.F.Files.means c.args.files.now).calls (g.F.Files.means c.load_files.new.from).calls (length (asks_for (content_by held) l)) (Err c.in_err-files.field-0.0))
    c.as_slice.ensures.files (c.in_err-files.ensures.asked held) told)
    c.in_err-files.ensures.ends

pub returns-in_err-files-clause-ends : goal.returns-in_err-files-clause-ends
returns-in_err-files-clause-ends g c = λ others.
    let store = g.K.Keeper.means c.args.keeper.now in
    let a : Outside = record others { files = g.F.Files.means c.args.files.now; store = store } in
    let b : Outside = record others { files = g.F.Files.means c.load_files.new.from; store = store } in
    ends_on _ _ (IsBadIn store) ⊥ a a b c.from_residual.result c.in_err-files.field-0.0 c.from_residual.ensures.1 (refl, refl, refl, refl) (in_time_same a.input.course) (λ e. e) (λ e. e)
    (ends_wider _ _ (IsBadIn store) ⊥ ⊥ a b (Err c.in_err-files.field-0.0) (λ i no. absurd no) (λ never. never) (c.in_err-files.ensures.ends (record others { store = store })))

pub take_event-requires-clause-files : goal.take_event-requires-clause-files
take_event-requires-clause-files g c =
    distinct_loaded c.args.names.now c.in-Ok.files c.as_slice.ensures.distinct
    (subst (λ (l : List FileToLoad). HasNames l c.in-Ok.files) c.as_slice.ensures.files
    (subst (λ (r : Result _ _). IfOk r (HasNames c.as_slice.result.now)) c.in-Ok.is c.in_ok-files.ensures.names))

pub returns-in-Ok-clause-gives : goal.returns-in-Ok-clause-gives
returns-in-Ok-clause-gives g c = λ others held w s in_time told some.
    let files = g.F.Files.means in
    let keeper = g.K.Keeper.means in
    let content = (files c.args.files.now).content in
    let all = length (asks_for (content_by held) c.args.names.now) in
    let found : c.in_ok-files.field-0 ≡ all_found (content_by held) c.args.names.now =
    subst (λ (l : List FileToLoad). AreTold content held (asks_for (content_by held) l) → c.in_ok-files.field-0 ≡ all_found (content_by held) l) c.as_slice.ensures.files (c.in_ok-files.ensures.found held) told in
    let asks = subst (λ (l : List FileToLoad). AreTold content held (asks_for (content_by held) l)
    → AsksBy {T = Result (List NamedFile) Report} (files c.args.files.now).calls (files c.load_files.new.from).calls (length (asks_for (content_by held) l)) (Ok c.in_ok-files.field-0))
    c.as_slice.ensures.files (c.in_ok-files.ensures.asked held) told in
    let a : Outside = record others { files = files c.args.files.now; store = keeper c.args.keeper.now } in
    let b : Outside = record others { files = files c.load_files.new.from; store = keeper c.args.keeper.now } in
    let d : Outside = record others { files = files c.load_files.new.from; store = keeper c.take_event.new.keeper } in
    subst (λ (x : Step). WorldGives g.E.Worlds.stands_for w x all a d c.take_event.new.self.kept c.take_event.result)
    (found_files held w c.args.time c.args.names.now c.in-Ok.files (sym found ∙ c.in-Ok.is))
    (gives_behind g.E.Worlds.stands_for w (next of_a_run w (event.Reload c.args.time c.in-Ok.files)) c.take_event.new.self.kept a b d all c.take_event.result asks
    (c.take_event.ensures.gives b w s some))

pub returns-in-Ok-clause-ends : goal.returns-in-Ok-clause-ends
returns-in-Ok-clause-ends g c = λ others.
    let files = g.F.Files.means in
    let keeper = g.K.Keeper.means in
    let a : Outside = record others { files = files c.args.files.now; store = keeper c.args.keeper.now } in
    let b : Outside = record others { files = files c.load_files.new.from; store = keeper c.args.keeper.now } in
    let d : Outside = record others { files = files c.load_files.new.from; store = keeper c.take_event.new.keeper } in
    let l = c.in_ok-files.ensures.ends (record others { store = keeper c.args.keeper.now }) in
    ends_behind (IsBadIn d.store) ⊥ a b d c.take_event.result l.cause (in_time_same a.input.course) l.files (λ e. e) (c.take_event.ensures.ends b)

pub returns-in-Err-clause-gives : goal.returns-in-Err-clause-gives
returns-in-Err-clause-gives g c = λ others held w s in_time told some.
    let files = g.F.Files.means in
    let content = (files c.args.files.now).content in
    let found : c.in_ok-files.field-0 ≡ all_found (content_by held) c.args.names.now =
    subst (λ (l : List FileToLoad). AreTold content held (asks_for (content_by held) l) → c.in_ok-files.field-0 ≡ all_found (content_by held) l) c.as_slice.ensures.files (c.in_ok-files.ensures.found held) told in
    let asks = subst (λ (l : List FileToLoad). AreTold content held (asks_for (content_by held) l)
    → AsksBy {T = Result (List NamedFile) Report} (files c.args.files.now).calls (files c.load_files.new.from).calls (length (asks_for (content_by held) l)) (Ok c.in_ok-files.field-0))
    c.as_slice.ensures.files (c.in_ok-files.ensures.asked held) told in
    let e = refused_files held w c.args.time c.args.names.now c.in-Err.refusal in_time (sym found ∙ c.in-Err.is) in
    (sym (ap (λ (x : Step). x.report) e), subst (λ (x : Step). g.E.Worlds.stands_for c.args.self.now.kept (g.K.Keeper.means c.args.keeper.now) x.world) (sym e) s, asks)

pub returns-in-Err-clause-ends : goal.returns-in-Err-clause-ends
returns-in-Err-clause-ends g c = λ others.
    let l = c.in_ok-files.ensures.ends (record others { store = g.K.Keeper.means c.args.keeper.now }) in
    record { cause = l.cause; input = in_time_same others.input.course; files = l.files; out = λ e. e }

-- told rows stay told, and what answers goes on

pub returns-in_err-files-clause-tells : goal.returns-in_err-files-clause-tells
returns-in_err-files-clause-tells g c = keeps_same _ (g.K.Keeper.means c.args.keeper.now) c.from_residual.result

pub returns-in-Err-clause-tells : goal.returns-in-Err-clause-tells
returns-in-Err-clause-tells g c = keeps_same _ (g.K.Keeper.means c.args.keeper.now) _
