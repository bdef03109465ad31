-- What a backfill comes to: the recording rules of groups are evaluated at one time after another, over a
-- history that takes what they add.
use Rattle.std.specs.Prelude.{ℕ, not, Bool, List, [], ◌∷◌, ◌++◌, filter, flat_map, fold, map}
use Rattle.spec_rules.specs.spec_history.declared.entry.Entry.{Entry}
use Rattle.spec_rules.specs.Definitions.{Group as Definition, group_of_def, Rule}
use Rattle.spec_rules.specs.declared.report.GroupReport.{GroupReport}
use Rattle.spec_rules.specs.Evaluations.{GroupStep, group_step}
use Rattle.spec_rules.specs.Groups.{Group, fresh}
use Rattle.spec_rules.specs.Reloads.{LoadedFile}
use Rattle.spec_rules.specs.Settings.{Settings, of_a_run}
use Rattle.pr_backfill.specs.declared.stepped.FileGroup.{FileGroup}
use Rattle.pr_backfill.specs.declared.stepped.Stepped.{Stepped}

-- Groups

abbrev pub is_recording : Rule → Bool
is_recording rule = not rule.alert

-- A group without its alerts. Nothing has happened to it, and it waits for nothing.
abbrev pub recording_only : Definition → Definition
recording_only d = record { name = d.name; interval = d.interval; limit = d.limit; rules = filter is_recording d.rules }

abbrev pub group_to_fill : List ℕ → Definition → Group
group_to_fill file d = fresh 0 file (recording_only d)

-- the groups of files, in order
abbrev pub groups_to_fill : List LoadedFile → List Group
groups_to_fill files = flat_map (λ f. map (group_to_fill f.name) f.groups) files

abbrev pub group_of_file : FileGroup → Group
group_of_file f = group_to_fill f.file (group_of_def f.def)

-- One time

-- How far it has come: the history as it then stands, what is told of the groups that were evaluated, and
-- these groups after it.
pub record Round : Type 0 where
  pub history : List Entry
  pub told : List Stepped
  pub groups : List Group

abbrev pub round_begun : List Entry → Round
round_begun history = record { history = history; told = []; groups = [] }

abbrev pub stepped : Group → GroupReport → Stepped
stepped g report = record { file = g.file; group = g.name; report = report }

-- What of the entries of an evaluation is admitted comes behind the history.
abbrev pub after_group : Round → Group → GroupStep → Round
after_group r g step = record {
  history = r.history ++ step.report.admitted;
  told = r.told ++ stepped g step.report ∷ [];
  groups = r.groups ++ step.group ∷ [];
}

abbrev pub one_group : Settings → ℕ → Round → Group → Round
one_group s time r g = after_group r g (group_step s g r.history time)

-- Each group in order is evaluated over the history as those before it leave it.
unfoldable pub round_at : Settings → ℕ → List Entry → List Group → Round
round_at s time history groups = fold (one_group s time) (round_begun history) groups

-- All times

-- what is told of a group's evaluation at a time
pub record FillStep : Type 0 where
  pub time : ℕ
  pub step : Stepped

abbrev pub at_time : ℕ → Stepped → FillStep
at_time time step = record { time = time; step = step }

abbrev pub then_at : ℕ → Round → List FillStep → List FillStep
then_at time r later = map (at_time time) r.told ++ later

abbrev pub filled_from : Settings → List Entry → List Group → List ℕ → List FillStep
filled_from s history groups [] = []
filled_from s history groups (time ∷ times) =
    then_at time (round_at s time history groups) (filled_from s (round_at s time history groups).history (round_at s time history groups).groups times)

-- The evaluations of a backfill of files over the history of the kept rows, at rising times.
unfoldable pub filled : List Entry → List LoadedFile → List ℕ → List FillStep
filled history files times = filled_from of_a_run history (groups_to_fill files) times

-- the rows that evaluations keep
abbrev pub rows_filled : List FillStep → List Entry
rows_filled steps = flat_map (λ s. s.step.report.admitted) steps
