-- How far a test has come: some of its events have happened, and others are left.
use Rattle.std.specs.Prelude.{◌≡◌, ℕ, ◌-◌, ◌*◌, ◌<◌, ◌≤◌, List, ◌++◌, map, count_by, slice_get, Option, Some, None}
use Rattle.std.specs.List.{AllByRecursion, IsDistinct, flat_map, range_with_len}
use Rattle.std.specs.Str.{bytes_eq}
use Rattle.pr_testfile.specs.declared.inputs.input.Input.{Input}
use Rattle.pr_testfile.specs.pr_rulefile.Order.{ordered}
use Rattle.spec_world.specs.spec_rules.Groups.{Group, is_group_named}
use Rattle.spec_world.specs.spec_rules.Reloads.{LoadedFile}
use Rattle.spec_world.specs.spec_rules.Settings.{Settings}
use Rattle.spec_world.specs.spec_rules.private.Times.{IsAfter, IsAfterAll}
use Rattle.spec_world.specs.declared.event.Event.{Event}
use Rattle.spec_world.specs.Step.{time_of, world_after}
use Rattle.spec_world.specs.World.{World}
use Rattle.pr_testfile.specs.Series.{entries_at, places}
use Rattle.spec_tests.specs.Events.{add_of, begun, eval_at, is_earlier}
use Rattle.spec_tests.specs.private.Sooner.{AllUntil}

-- What is left

-- the samples at a place, and those of so many places from one on
abbrev pub place_events : Input → ℕ → List Event
place_events input place = map add_of (entries_at input.interval input.series place)

abbrev pub samples_left : Input → ℕ → ℕ → List Event
samples_left input place count = map add_of (flat_map (entries_at input.interval input.series) (range_with_len place count))

-- a round of evaluations, and so many of them from one on
abbrev pub round_events : ℕ → List Group → ℕ → List Event
round_events every groups round = map (eval_at (round * every)) groups

abbrev pub rounds_left : ℕ → List Group → ℕ → ℕ → List Event
rounds_left every groups round count = flat_map (round_events every groups) (range_with_len round count)

abbrev pub events_left : Input → ℕ → List Group → ℕ → ℕ → ℕ → ℕ → List Event
events_left input every groups place samples round rounds =
    ordered is_earlier (samples_left input place samples ++ rounds_left every groups round rounds)

-- Times and names

abbrev pub IsUpTo : Option ℕ → ℕ → Type 0
IsUpTo None time = Unit {0}
IsUpTo (Some last) time = last ≤ time

-- by its file and its name a group is told from all others
abbrev pub AreApart : List Group → Type 0
AreApart groups = (file name : List ℕ) → count_by (is_group_named file name) groups ≤ 1

-- none of them was evaluated
abbrev pub AreNew : List Group → Type 0
AreNew groups = AllByRecursion (λ g. g.last ≡ None) groups

-- files have names that differ, and so have the groups of each
abbrev pub AreToldApart : List LoadedFile → Type 0
AreToldApart files = IsDistinct bytes_eq (map (λ f. f.name) files) × AllByRecursion (λ f. IsDistinct bytes_eq (map (λ d. d.name) f.groups)) files

abbrev pub site : Group → List ℕ × List ℕ
site g = (g.file, g.name)

abbrev pub HaveSites : List Group → List Group → Type 0
HaveSites gs hs = map site gs ≡ map site hs

-- So many groups of a round have been evaluated; the others may be.
pub record IsInRound (groups : List Group) (time i : ℕ) (w : World) : Type 0 where
  pub sites : HaveSites w.groups groups
  pub last : IsUpTo w.last time
  pub done : (j : ℕ) (g : Group) → j < i → slice_get w.groups j ≡ Some g → g.last ≡ Some time
  pub rest : (j : ℕ) (g : Group) → i ≤ j → slice_get w.groups j ≡ Some g → IsAfter time g.last

-- The samples of the places before this one have come, and the evaluations of the rounds before this
-- one, all up to a time; so many places and rounds are there in all; and this is the world then.
pub record HasCome (input : Input) (every : ℕ) (groups : List Group) (s : Settings) (rounds place left round now : ℕ) (w : World) : Type 0 where
  pub done : List Event
  pub parts : events_left input every groups 0 (places input.series) 0 rounds ≡ done ++ events_left input every groups place left round (rounds - round)
  pub until : AllUntil time_of now done
  pub world : w ≡ world_after s (begun groups) done
  pub sampled : 0 < left → IsUpTo w.last (place * input.interval)
  pub evaluated : IsUpTo w.last (round * every)
  pub ready : IsAfterAll (round * every) w.groups
  pub sites : HaveSites w.groups groups
