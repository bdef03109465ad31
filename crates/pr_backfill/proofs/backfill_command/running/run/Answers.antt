use Rattle.std.proofs.Common.{Bool, Err, refl, subst}
use Rattle.pr_outside.specs.Ends.{no_row}
use Rattle.pr_outside.specs.Outside.{Outside}
use Rattle.pr_outside.proofs.Ended.{in_time_same, quiet}
use Rattle.pr_outside.specs.Stores.{IsBadIn}
use Rattle.pr_outside.proofs.Endings.{ends_behind, ends_as, ends_wider}
use Rattle.pr_checks.specs.RulesLoaded.{RulesLoaded, all_rules}
use Rattle.pr_checks.specs.private.RulesTaken.{rules_of}
use Rattle.pr_checks.specs.declared.loaded.Rules.{Rules}
use Rattle.pr_backfill.specs.Means.{EndsWith}
use Rattle.pr_backfill.proofs.Loaded.{asked_all, no_row_asked, nothing_done, with_behind}
use Rattle.pr_backfill.proofs.Opened.{asked_long, asked_read, quiet_load, unopened_fill}
use Rattle.pr_backfill.proofs.Telling.{keeps_any, keeps_none}
use Rattle.pr_backfill.proofs.Unopened.{told_still}
use Rattle.pr_backfill.proofs.backfill_command.running.run.Goals as goal

pub returns-in-Ok-clause-over : goal.returns-in-Ok-clause-over
returns-in-Ok-clause-over g c = λ others held told.
    let files = g.F.Files.means in
    let keeper = g.K.Keeper.means in
    let out = g.O.Sink.means in
    let before : Outside = record others { files = files c.args.files.now; store = keeper c.args.keeper.now; out = out c.args.out.now } in
    let now : Outside = record others { files = files c.load_rules.new.files; store = keeper c.go_on.new.keeper; out = out c.go_on.new.out } in
    let rules = rules_of c.in-Ok.rules in
    subst (λ (l : RulesLoaded). EndsWith l.wrong l.files c.args.times before now c.go_on.result) (c.in-Ok.ensures.loaded held told)
    (with_behind others before.files now.files before.store now.store before.out now.out c.go_on.result rules.wrong rules.files c.args.times
    (c.go_on.ensures.with (record others { files = now.files })))

pub returns-in-Ok-clause-asked : goal.returns-in-Ok-clause-asked
returns-in-Ok-clause-asked g c =
    let keeper = g.K.Keeper.means in
    let out = g.O.Sink.means in
    asked_all (IsBadIn (keeper c.go_on.new.keeper)) (keeper c.args.keeper.now) (keeper c.go_on.new.keeper) (out c.args.out.now) (out c.go_on.new.out) _ _ _
    c.go_on.result c.in-Ok.ensures.asked (c.go_on.ensures.ends quiet)

pub returns-in-Ok-clause-ends : goal.returns-in-Ok-clause-ends
returns-in-Ok-clause-ends g c = λ others.
    let files = g.F.Files.means in
    let keeper = g.K.Keeper.means in
    let out = g.O.Sink.means in
    let before : Outside = record others { files = files c.args.files.now; store = keeper c.args.keeper.now; out = out c.args.out.now } in
    let loaded : Outside = record before { files = files c.load_rules.new.files } in
    let now : Outside = record loaded { store = keeper c.go_on.new.keeper; out = out c.go_on.new.out } in
    let l = c.in-Ok.ensures.ends before in
    ends_behind (IsBadIn now.store) ⊥ before loaded now c.go_on.result l.cause (in_time_same before.input.course) l.files (λ e. e) (c.go_on.ensures.ends loaded)

pub returns-in-Err-clause-over : goal.returns-in-Err-clause-over
returns-in-Err-clause-over g c = λ others held told.
    let files = g.F.Files.means in
    let rules = all_rules held _ in
    nothing_done c.rows_decode_as_their_entries.ensures.only others (files c.args.files.now) (files c.load_rules.new.files) (g.K.Keeper.means c.args.keeper.now)
    (g.O.Sink.means c.args.out.now) c.in-Err.stop (no_row_asked Rules _ _ _ c.in-Err.stop c.in-Err.ensures.asked) rules.wrong rules.files c.args.times

pub returns-in-Err-clause-ends : goal.returns-in-Err-clause-ends
returns-in-Err-clause-ends g c = λ others.
    let files = g.F.Files.means in
    let before : Outside = record others { files = files c.args.files.now; store = g.K.Keeper.means c.args.keeper.now; out = g.O.Sink.means c.args.out.now } in
    let now : Outside = record before { files = files c.load_rules.new.files } in
    ends_wider Bool no_row (IsBadIn before.store) ⊥ ⊥ before now (Err c.in-Err.stop) (λ index no. absurd no) (λ never. never)
    (ends_as Rules Bool no_row ⊥ before now c.in-Err.stop (c.in-Err.ensures.ends before))

pub returns-in-Err-clause-opens : goal.returns-in-Err-clause-opens
returns-in-Err-clause-opens g c =
    let paths = (g.K.Keeper.means c.args.keeper.now).paths in
    let asked = c.in-Err.ensures.asked in
    unopened_fill c.args.path.now paths paths c.in-Err.stop (asked_read Rules _ _ _ c.in-Err.stop asked) (asked_long Rules _ _ _ c.in-Err.stop asked) (no_row_asked Rules _ _ _ c.in-Err.stop asked) refl

pub returns-in-Err-clause-unopened : goal.returns-in-Err-clause-unopened
returns-in-Err-clause-unopened g c = λ same. told_still (g.K.Keeper.means c.args.keeper.now).rows

pub returns-in-Ok-clause-unwritten : goal.returns-in-Ok-clause-unwritten
returns-in-Ok-clause-unwritten g c = λ is.
    let keeper = g.K.Keeper.means in
    let out = g.O.Sink.means in
    absurd (quiet_load (IsBadIn (keeper c.go_on.new.keeper)) (keeper c.args.keeper.now) (keeper c.go_on.new.keeper) (out c.args.out.now) (out c.go_on.new.out) c.go_on.result
    (c.go_on.ensures.ends quiet) is)

-- whether the rows are told

pub returns-in-Err-clause-tells : goal.returns-in-Err-clause-tells
returns-in-Err-clause-tells g c = λ opened. absurd (opened refl)

pub returns-in-Err-clause-keeps : goal.returns-in-Err-clause-keeps
returns-in-Err-clause-keeps g c =
    let store = g.K.Keeper.means c.args.keeper.now in
    keeps_any {V = Unit} store store tt (Err c.in-Err.stop) (keeps_none store tt)
