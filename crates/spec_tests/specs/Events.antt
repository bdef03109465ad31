-- What happens in a test.
use Rattle.std.specs.Prelude.{ℕ, ◌+◌, ◌*◌, ◌/◌, max, Bool, true, not, nat_lt, nat_le, List, [], ◌∷◌, ◌++◌, map, filter, flat_map, fold, Option, Some, None}
use Rattle.std.specs.List.{range_with_len}
use Rattle.std.specs.Str.{bytes_eq}
use Rattle.spec_world.specs.spec_history.declared.entry.Entry.{Entry}
use Rattle.pr_testfile.specs.pr_rulefile.Order.{ordered}
use Rattle.spec_world.specs.spec_rules.Groups.{Group}
use Rattle.spec_world.specs.spec_rules.Settings.{Settings}
use Rattle.spec_world.specs.declared.event.Event.{Event}
use Rattle.spec_world.specs.declared.event.Event.TheVariants.{Add, Eval}
use Rattle.spec_world.specs.Step.{time_of, world_after}
use Rattle.spec_world.specs.World.{World}
use Rattle.pr_testfile.specs.Tests.{PlainTest}

-- Groups

abbrev pub is_called : List ℕ → Group → Bool
is_called name g = bytes_eq g.name name

-- Groups that are named come first, in the order of the names. A name takes all groups that have it,
-- in their order. The others follow.
abbrev pub by_names : List (List ℕ) → List Group → List Group
by_names [] groups = groups
by_names (name ∷ names) groups = filter (is_called name) groups ++ by_names names (filter (λ g. not (is_called name g)) groups)

-- Events

-- when the last check of a test is, where it has one
abbrev pub later_of : Option ℕ → ℕ → Option ℕ
later_of None time = Some time
later_of (Some last) time = Some (max last time)

abbrev pub last_check : PlainTest → Option ℕ
last_check t = fold later_of None (map (λ c. c.time) t.alerts ++ map (λ c. c.time) t.exprs)

abbrev pub add_of : Entry → Event
add_of e = Add e.time e.labels e.point

abbrev pub eval_at : ℕ → Group → Event
eval_at time g = Eval time g.file g.name

-- all groups are evaluated at the multiples of the interval up to the last check
abbrev pub evaluations_until : ℕ → List Group → Option ℕ → List Event
evaluations_until interval groups None = []
evaluations_until interval groups (Some last) =
    flat_map (λ k. map (eval_at (k * interval)) groups) (range_with_len 0 (last / interval + 1))

abbrev pub is_earlier : Event → Event → Bool
is_earlier a b = nat_lt (time_of a) (time_of b)

-- The events of a test in order of time. At one time the samples come first, in the order of the
-- file, and then the evaluations, in the order of the groups.
unfoldable pub events_of : ℕ → List Group → PlainTest → List Event
events_of interval groups t = ordered is_earlier (map add_of t.input ++ evaluations_until interval groups (last_check t))

-- Worlds

-- the world of a test before anything happens: no sample is there, and no group waits
abbrev pub begun : List Group → World
begun groups = record { history = []; last = None; targets = []; groups = groups; reloaded = true }

abbrev pub settings_of : ℕ → PlainTest → Settings
settings_of interval t = record { subquery_step = interval; external = record { labels = t.external_labels; url = t.external_url } }

abbrev pub is_until : ℕ → Event → Bool
is_until time e = nat_le (time_of e) time

-- The world that a check at a time sees: that after all events up to it, those of its time among
-- them.
unfoldable pub world_at : ℕ → List Group → PlainTest → ℕ → World
world_at interval groups t time = world_after (settings_of interval t) (begun groups) (filter (is_until time) (events_of interval groups t))
