use Rattle.std.proofs.Common.{◌≡◌, ℕ, Bool, true, false, List, IfSome, map, length, refl, subst}
use Rattle.std.specs.Prelude.{◌==◌}
use Rattle.pr_outside.specs.Ends.{no_row}
use Rattle.pr_outside.specs.Outside.{Outside}
use Rattle.pr_outside.proofs.Ended.{quiet}
use Rattle.spec_rules.specs.spec_history.Histories.{history_of}
use Rattle.pr_outside.specs.Stores.{IsBadIn, OverRows}
use Rattle.pr_outside.proofs.Endings.{ends_wider}
use Rattle.pr_checks.specs.declared.loaded.LoadedRules.{LoadedRules}
use Rattle.pr_checks.specs.private.RulesTaken.{loaded_of}
use Rattle.pr_backfill.specs.Means.{EndsBy, EndsRefused}
use Rattle.pr_backfill.proofs.Loaded.{none_wrong, some_wrong, write_fine}
use Rattle.pr_backfill.proofs.Opened.{refused_fill}
use Rattle.pr_backfill.proofs.Telling.{keeps_any, keeps_none, keeps_started}
use Rattle.pr_backfill.proofs.Unopened.{told_still}
use Rattle.pr_backfill.proofs.backfill_command.running.go_on.Goals as goal

pub returns-then-is_empty-clause-with : goal.returns-then-is_empty-clause-with
returns-then-is_empty-clause-with g c = λ others.
    let keeper = g.K.Keeper.means in
    let out = g.O.Sink.means in
    let before : Outside = record others { store = keeper c.args.keeper.now; out = out c.args.out.now } in
    let now : Outside = record others { store = keeper c.fill_all.new.keeper; out = out c.fill_all.new.out } in
    let is = c.as_slice-wrong.ensures in
    let over = subst (λ (files : List LoadedRules). IfSome now.store.rows (λ all. OverRows before.store.rows all (λ rows. EndsBy (history_of rows) (map loaded_of files) c.args.times rows before now c.fill_all.result)))
    c.into_vec.ensures (c.fill_all.ensures.over others) in
    none_wrong c.args.rules.wrong (map loaded_of c.args.rules.files) c.args.times before now c.fill_all.result
    (subst (λ (lines : List ℕ). true ≡ (length lines == 0)) is c.if-is_empty.ensures) over

pub returns-else-is_empty-clause-with : goal.returns-else-is_empty-clause-with
returns-else-is_empty-clause-with g c = λ others.
    let keeper = g.K.Keeper.means in
    let out = g.O.Sink.means in
    let before : Outside = record others { store = keeper c.args.keeper.now; out = out c.args.out.now } in
    let now : Outside = record others { store = keeper c.args.keeper.now; out = out c.refuse.new.out } in
    let is = c.as_slice-wrong.ensures in
    some_wrong c.args.rules.wrong (map loaded_of c.args.rules.files) c.args.times before now c.refuse.result
    (subst (λ (lines : List ℕ). false ≡ (length lines == 0)) is c.if-is_empty.ensures)
    (subst (λ (lines : List ℕ). EndsRefused lines before now c.refuse.result) is (c.refuse.ensures.refused before))

pub returns-else-is_empty-clause-bad : goal.returns-else-is_empty-clause-bad
returns-else-is_empty-clause-bad g c = λ at is.
    let out = g.O.Sink.means in
    absurd (write_fine Bool (out c.args.out.now) (out c.refuse.new.out) c.refuse.result c.refuse.ensures.ends at is)

pub returns-else-is_empty-clause-ends : goal.returns-else-is_empty-clause-ends
returns-else-is_empty-clause-ends g c = λ others.
    let keeper = g.K.Keeper.means in
    let out = g.O.Sink.means in
    let before : Outside = record others { store = keeper c.args.keeper.now; out = out c.args.out.now } in
    let now : Outside = record others { store = keeper c.args.keeper.now; out = out c.refuse.new.out } in
    ends_wider Bool no_row (IsBadIn before.store) ⊥ ⊥ before now c.refuse.result (λ index no. absurd no) (λ never. never) (c.refuse.ensures.ends before)

pub returns-then-is_empty-clause-opens : goal.returns-then-is_empty-clause-opens
returns-then-is_empty-clause-opens g c = c.fill_all.ensures.opens

pub returns-else-is_empty-clause-opens : goal.returns-else-is_empty-clause-opens
returns-else-is_empty-clause-opens g c =
    let out = g.O.Sink.means in
    refused_fill c.args.path.now _ (record quiet { out = out c.args.out.now }) (record quiet { out = out c.refuse.new.out }) quiet.store quiet.store (out c.args.out.now) (out c.refuse.new.out)
    (g.K.Keeper.means c.args.keeper.now).paths c.refuse.result (c.refuse.ensures.refused quiet) (c.refuse.ensures.ends quiet)

pub returns-else-is_empty-clause-unopened : goal.returns-else-is_empty-clause-unopened
returns-else-is_empty-clause-unopened g c = λ same. told_still (g.K.Keeper.means c.args.keeper.now).rows

-- whether the rows are told

pub returns-then-is_empty-clause-tells : goal.returns-then-is_empty-clause-tells
returns-then-is_empty-clause-tells g c = λ opened. c.fill_all.ensures.tells

pub returns-then-is_empty-clause-keeps : goal.returns-then-is_empty-clause-keeps
returns-then-is_empty-clause-keeps g c =
    let keeper = g.K.Keeper.means in
    keeps_started (keeper c.args.keeper.now) (keeper c.fill_all.new.keeper) c.fill_all.result c.fill_all.ensures.tells

pub returns-else-is_empty-clause-tells : goal.returns-else-is_empty-clause-tells
returns-else-is_empty-clause-tells g c = λ opened. absurd (opened refl)

pub returns-else-is_empty-clause-keeps : goal.returns-else-is_empty-clause-keeps
returns-else-is_empty-clause-keeps g c =
    let store = g.K.Keeper.means c.args.keeper.now in
    keeps_any {V = Unit} store store tt c.refuse.result (keeps_none store tt)
