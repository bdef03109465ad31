-- The evaluations at a time: the rows that they keep, and when their groups were evaluated last.
use Rattle.std.proofs.Common.{◌≡◌, ◌==◌, ℕ, ◌<◌, Bool, true, false, List, [], ◌∷◌, ◌++◌, Some, refl, sym, ap, ◌∙◌, subst, append-nil, map}
use Rattle.std.specs.Prelude.{fold}
use Rattle.std.specs.List.{AllByRecursion}
use Rattle.std.proofs.lemmas.List.{map_push}
use Rattle.spec_rules.specs.spec_history.declared.entry.Entry.{Entry}
use Rattle.spec_rules.specs.spec_history.Puts.{marker}
use Rattle.spec_rules.specs.Definitions.{Group as Definition}
use Rattle.spec_rules.specs.Evaluations.{all_rules, group_step, restoring}
use Rattle.spec_rules.specs.Groups.{Group}
use Rattle.spec_rules.specs.Reloads.{LoadedFile}
use Rattle.spec_rules.specs.Settings.{Settings}
use Rattle.spec_rules.specs.private.Times.{IsAfter, IsAfterAll}
use Rattle.pr_backfill.specs.Filled.{Round, at_time, group_to_fill, groups_to_fill, one_group, round_at, round_begun, rows_filled, stepped}
use Rattle.pr_backfill.specs.private.Standing.{AreBefore}
use Rattle.pr_backfill.specs.private.BackfillCommandTimes.{AreAfter}
use Rattle.pr_backfill.proofs.Texts.{kept_one}

-- Rows

kept_by : (s : Settings) (time : ℕ) (history : List Entry) (groups : List Group) (r : Round) → r.history ≡ history ++ rows_filled (map (at_time time) r.told)
    → (fold (one_group s time) r groups).history ≡ history ++ rows_filled (map (at_time time) (fold (one_group s time) r groups).told)
kept_by s time history [] r so = so
kept_by s time history (g ∷ groups) r so =
    let step = group_step s g r.history time in
    let told = stepped g step.report in
    kept_by s time history groups (one_group s time r g)
    (ap (λ (h : List Entry). h ++ step.report.admitted) so
    ∙ sym (kept_one history (map (at_time time) r.told) (at_time time told))
    ∙ ap (λ (l : List _). history ++ rows_filled l) (sym (map_push (at_time time) r.told told)))

-- the history after them has their rows
pub round_kept : (s : Settings) (time : ℕ) (history : List Entry) (groups : List Group)
    → (round_at s time history groups).history ≡ history ++ rows_filled (map (at_time time) (round_at s time history groups).told)
unfolding round_at
round_kept s time history groups = kept_by s time history groups (round_begun history) (sym (append-nil history))

-- Times

abbrev WereLast : ℕ → List Group → Type 0
WereLast time groups = AllByRecursion (λ g. g.last ≡ Some time) groups

one_last : (s : Settings) (g : Group) (history : List Entry) (time : ℕ) → (group_step s g history time).group.last ≡ Some time
unfolding group_step
one_last s g history time = by (g.waits == 1)
  where
    by : (last : Bool) → (restoring last g history time (all_rules s g history time) (map (marker time) g.leftovers)).group.last ≡ Some time
    by true = refl
    by false = refl

last_push : (time : ℕ) (groups : List Group) (g : Group) → WereLast time groups → g.last ≡ Some time → WereLast time (groups ++ g ∷ [])
last_push time [] g all is = (is, tt)
last_push time (f ∷ groups) g all is = (all.0, last_push time groups g all.1 is)

last_by : (s : Settings) (time : ℕ) (groups : List Group) (r : Round) → WereLast time r.groups → WereLast time (fold (one_group s time) r groups).groups
last_by s time [] r all = all
last_by s time (g ∷ groups) r all =
    last_by s time groups (one_group s time r g) (last_push time r.groups (group_step s g r.history time).group all (one_last s g r.history time))

after_last : (time later : ℕ) (groups : List Group) → time < later → WereLast time groups → IsAfterAll later groups
after_last time later [] less all = tt
after_last time later (g ∷ groups) less all = (subst (IsAfter later) (sym all.0) less, after_last time later groups less all.1)

before_rest : (time : ℕ) (times : List ℕ) (groups : List Group) → AreAfter time times → WereLast time groups → AreBefore times groups
before_rest time [] groups after all = tt
before_rest time (t ∷ times) groups after all = (after_last time t groups after.0 all, before_rest time times groups after.1 all)

-- groups that were evaluated at a time are before those after it
pub round_before : (s : Settings) (time : ℕ) (history : List Entry) (groups : List Group) (times : List ℕ) → AreAfter time times → AreBefore times (round_at s time history groups).groups
unfolding round_at
round_before s time history groups times after =
    before_rest time times (fold (one_group s time) (round_begun history) groups).groups after (last_by s time groups (round_begun history) tt)

-- groups that were not evaluated are before all
new_one : (time : ℕ) (name : List ℕ) (defs : List Definition) (groups : List Group) → IsAfterAll time groups → IsAfterAll time (map (group_to_fill name) defs ++ groups)
new_one time name [] groups all = all
new_one time name (d ∷ defs) groups all = (tt, new_one time name defs groups all)

new_all : (time : ℕ) (files : List LoadedFile) → IsAfterAll time (groups_to_fill files)
new_all time [] = tt
new_all time (f ∷ files) = new_one time f.name f.groups (groups_to_fill files) (new_all time files)

pub new_before : (times : List ℕ) (files : List LoadedFile) → AreBefore times (groups_to_fill files)
new_before [] files = tt
new_before (time ∷ times) files = (new_all time files, new_before times files)
