use Rattle.std.proofs.Common.{◌∙◌, ◌-◌, [], Ok, ℕ, List, append-nil, ap, sym, subst, take}
use Rattle.std.specs.Io.KnownBytes.{Appends}
use Rattle.pr_text.specs.spec_world.declared.report.Report.TheVariants.{Opened}
use Rattle.spec_rules.specs.Settings.{of_a_run}
use Rattle.pr_backfill.specs.Filled.{FillStep, filled, filled_from, groups_to_fill}
use Rattle.pr_text.specs.Printed.{shown_report}
use Rattle.pr_backfill.specs.private.Standing.{FillingFinishes, FillingHalts}
use Rattle.pr_backfill.proofs.Parts.{part_err, part_none, part_on, part_write}
use Rattle.pr_backfill.proofs.Progress.{filled_is}
use Rattle.pr_backfill.proofs.Rounds.{new_before}
use Rattle.pr_backfill.proofs.Texts.{ended, finish_err, opened_so_far, opened_whole}
use Rattle.pr_backfill.proofs.backfill_command.filling.fill_over.Goals as goal

pub returns-in_err-tell_opened-clause-finishes : goal.returns-in_err-tell_opened-clause-finishes
returns-in_err-tell_opened-clause-finishes g c = λ history files keeps tells.
    let store = g.K.Keeper.means c.args.keeper.now in
    let steps = filled history files c.args.times in
    let old = (g.O.Sink.means c.args.out.now).taken in
    let new = (g.O.Sink.means c.tell_opened.new.out).taken in
    let f = c.in_err-tell_opened.ensures.front in
    finish_err history steps store old new c.from_residual.result _ c.from_residual.ensures.1
    (opened_so_far history store old new steps f.0 tells (subst (λ (n : ℕ). Appends old new (take f.0 (shown_report (Opened n)))) (c.size-rows.ensures.count ∙ tells.count) f.1))

pub returns-in_err-tell_opened-clause-part : goal.returns-in_err-tell_opened-clause-part
returns-in_err-tell_opened-clause-part g c =
    let a = g.K.Keeper.means c.args.keeper.now in
    let x = g.O.Sink.means c.args.out.now in
    let y = g.O.Sink.means c.tell_opened.new.out in
    part_err _ _ Unit a a a x x y tt c.from_residual.result c.in_err-tell_opened.field-0.0 c.from_residual.ensures.1 (part_none a x tt) (part_write a x y _ c.in_err-tell_opened.ensures.ends)

pub returns-in_err-fill_times-clause-finishes : goal.returns-in_err-fill_times-clause-finishes
returns-in_err-fill_times-clause-finishes g c = λ history files keeps tells.
    let before = g.K.Keeper.means c.args.keeper.now in
    let store = g.K.Keeper.means c.fill_times.new.keeper in
    let all = filled_from of_a_run history (groups_to_fill files) c.args.times in
    let old = (g.O.Sink.means c.args.out.now).taken in
    let mid = (g.O.Sink.means c.tell_opened.new.out).taken in
    let new = (g.O.Sink.means c.fill_times.new.out).taken in
    let begun = opened_whole history before old mid tells
    (subst (λ (n : ℕ). Appends old mid (shown_report (Opened n))) (c.size-rows.ensures.count ∙ tells.count) c.in_ok-tell_opened.ensures.text) in
    finish_err history (filled history files c.args.times) store old new c.from_residual-in_err-fill_times.result _ c.from_residual-in_err-fill_times.ensures.1
    (subst (λ (l : List FillStep). FillingHalts history l store old new) (append-nil all ∙ sym (filled_is history files c.args.times))
    (c.in_err-fill_times.ensures.comes history (groups_to_fill files) old keeps (new_before c.args.times files) begun []))

pub returns-in_err-fill_times-clause-part : goal.returns-in_err-fill_times-clause-part
returns-in_err-fill_times-clause-part g c =
    let a = g.K.Keeper.means c.args.keeper.now in
    let b = g.K.Keeper.means c.fill_times.new.keeper in
    let out = g.O.Sink.means in
    part_err _ _ _ a a b (out c.args.out.now) (out c.tell_opened.new.out) (out c.fill_times.new.out) tt c.from_residual-in_err-fill_times.result c.in_err-fill_times.field-0.0
    c.from_residual-in_err-fill_times.ensures.1 (part_write a (out c.args.out.now) (out c.tell_opened.new.out) _ c.in_ok-tell_opened.ensures.ends) c.in_err-fill_times.ensures.part

pub returns-clause-finishes : goal.returns-clause-finishes
returns-clause-finishes g c = λ history files keeps tells.
    let before = g.K.Keeper.means c.args.keeper.now in
    let store = g.K.Keeper.means c.fill_times.new.keeper in
    let all = filled_from of_a_run history (groups_to_fill files) c.args.times in
    let old = (g.O.Sink.means c.args.out.now).taken in
    let mid = (g.O.Sink.means c.tell_opened.new.out).taken in
    let told = (g.O.Sink.means c.fill_times.new.out).taken in
    let new = (g.O.Sink.means c.tell_backfilled.new.out).taken in
    let begun = opened_whole history before old mid tells
    (subst (λ (n : ℕ). Appends old mid (shown_report (Opened n))) (c.size-rows.ensures.count ∙ tells.count) c.in_ok-tell_opened.ensures.text) in
    subst (λ (l : List FillStep). FillingFinishes history l store old new c.tell_backfilled.result) (sym (filled_is history files c.args.times))
    (ended history all before store old told new c.tell_backfilled.result c.size-rows.result (c.size.result - c.size-rows.result) tells.count c.size-rows.ensures.count
    (ap (λ (n : ℕ). n - c.size-rows.result) c.size.ensures.count)
    (c.in_ok-fill_times.ensures.comes history (groups_to_fill files) old keeps (new_before c.args.times files) begun) c.tell_backfilled.ensures.text c.tell_backfilled.ensures.front)

pub returns-clause-part : goal.returns-clause-part
returns-clause-part g c =
    let a = g.K.Keeper.means c.args.keeper.now in
    let b = g.K.Keeper.means c.fill_times.new.keeper in
    let out = g.O.Sink.means in
    let x = out c.args.out.now in
    let y = out c.tell_opened.new.out in
    let z = out c.fill_times.new.out in
    part_on a b b x z (out c.tell_backfilled.new.out) tt c.tell_backfilled.result (part_on a a b x y z tt (Ok tt) (part_write a x y _ c.in_ok-tell_opened.ensures.ends) c.in_ok-fill_times.ensures.part)
    (part_write b z (out c.tell_backfilled.new.out) c.tell_backfilled.result c.tell_backfilled.ensures.ends)
