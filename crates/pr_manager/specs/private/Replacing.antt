-- What a reload that is accepted comes to. Private contracts cite this: a reader can pass it over.
use Rattle.std.specs.Prelude.{◌≡◌, ℕ, ◌++◌, List, find, length}
use Rattle.spec_world.specs.spec_history.declared.entry.Entry.{Entry}
use Rattle.pr_group.specs.pr_head.private.Intake.{Series}
use Rattle.spec_world.specs.spec_history.Puts.{added_count, admitted}
use Rattle.pr_group.specs.pr_range.private.Asks.{LastAsks, Passed}
use Rattle.spec_world.specs.spec_rules.Groups.{Group, is_group_named}
use Rattle.spec_world.specs.spec_rules.Reloads.{ReloadStep, rules_in}
use Rattle.spec_world.specs.spec_rules.Settings.{Settings}
use Rattle.pr_group.specs.private.Keeping.{KeptGroup}
use Rattle.spec_world.specs.declared.report.Report.TheVariants as report
use Rattle.pr_manager.specs.declared.answered.Answered.{Answered}
use Rattle.pr_manager.specs.private.Keeping.{HasGoneOn, KeepEach}
use Rattle.pr_manager.specs.private.Naming.{kept_named, passed_by_any}
use Rattle.pr_manager.specs.private.Passing.{taken_over_by}

-- the answer tells the step, the groups after it are kept, with what they take over of what was passed of
-- those of before, and the head has gone on
pub record HasReplaced {R : Type 0} (fits : R → List Entry → Type 0) (last : R → LastAsks) (passed : R → Passed) (s : Settings) (history : List Entry) (olds : List Group) (step : ReloadStep) (old new : Series) (was ks : List (KeptGroup R)) (a : Answered) : Type 0 where
  pub report : a.report ≡ report.Reloaded (length step.groups) (rules_in step.groups) (added_count history step.entries)
  pub added : a.added ≡ admitted history step.entries
  pub keeps : KeepEach fits last passed s (history ++ admitted history step.entries) ks step.groups
  pub passing : (f n : List ℕ) → passed_by_any passed (history ++ admitted history step.entries) (kept_named f n ks)
      ≡ taken_over_by (find (is_group_named f n) olds) (find (is_group_named f n) step.groups) (passed_by_any passed history (kept_named f n was))
  pub head : HasGoneOn old new history (history ++ admitted history step.entries)
