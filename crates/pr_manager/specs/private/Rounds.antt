-- What becomes of a world by an evaluation and by a reload, and what an evaluation may read.
use Rattle.std.specs.Prelude.{ℕ, cond, nat_lt, List, [], find, Option, Some, None}
use Rattle.spec_world.specs.spec_history.declared.entry.Entry.{Entry}
use Rattle.spec_world.specs.spec_rules.private.Costs.{PassedByRules, group_cost}
use Rattle.spec_world.specs.spec_rules.Groups.{Group, is_group_named}
use Rattle.spec_world.specs.spec_rules.Settings.{Settings}
use Rattle.spec_world.specs.Rounds.{eval_outcome, reload_outcome}
use Rattle.spec_world.specs.Step.{Step, step_by}
use Rattle.spec_world.specs.World.{World}
use Rattle.spec_world.specs.declared.event.NamedFile.{NamedFile}
use Rattle.spec_world.specs.declared.report.Report.{Report}
use Rattle.spec_world.specs.declared.report.Report.TheVariants as report

abbrev pub eval_step : Settings → World → ℕ → List ℕ → List ℕ → Step
eval_step s w time file name = step_by w time (eval_outcome s w time file name)

abbrev pub files_step : World → ℕ → List NamedFile → Step
files_step w time files = step_by w time (reload_outcome w time files)

-- the entries that an evaluation added, as they are told
abbrev pub admitted_in : Report → List Entry
admitted_in (report.Evaluated group) = group.admitted
admitted_in _ = []

-- How many samples an evaluation may read: as many as the group costs; none, where there is no such
-- group, or where it was evaluated at this time or later.
abbrev pub cost_after : Option ℕ → Settings → Group → List Entry → ℕ → PassedByRules → ℕ
cost_after None s g history time u = group_cost s g history time u
cost_after (Some last) s g history time u = cond (nat_lt last time) (group_cost s g history time u) 0

abbrev pub cost_by : Settings → List Entry → ℕ → PassedByRules → Option Group → ℕ
cost_by s history time u None = 0
cost_by s history time u (Some g) = cost_after g.last s g history time u

abbrev pub eval_cost : Settings → World → ℕ → List ℕ → List ℕ → PassedByRules → ℕ
eval_cost s w time file name u = cost_by s w.history time u (find (is_group_named file name) w.groups)
