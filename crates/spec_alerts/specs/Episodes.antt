-- The episodes of a label set. In every list the newest sight stands first, so that behind a sight
-- stands what went before it.
use Rattle.std.specs.Prelude.{ℕ, ◌+◌, Bool, false, ◌&&◌, ◌||◌, cond, nat_lt, nat_le, List, [], ◌∷◌, Option, Some, None, is_some, unwrap_or}
use Rattle.std.specs.Option.{option_map, option_or}
use Rattle.spec_alerts.specs.declared.found.RuleElement.{RuleElement}
use Rattle.spec_alerts.specs.Sights.{Sight}

-- the sight has an element
abbrev pub is_found : Sight → Bool
is_found s = is_some s.found

-- A gap is a longest run of neighbouring sights without an element: the one that ends at the newest
-- sight, where that has none.
abbrev pub gap : List Sight → List Sight
gap [] = []
gap (s ∷ earlier) = cond (is_found s) [] (s ∷ gap earlier)

-- the first of these sights in time, and when it was
abbrev pub first_sight : List Sight → Option Sight
first_sight [] = None
first_sight (s ∷ earlier) = option_or (first_sight earlier) (Some s)

abbrev pub first_time : List Sight → Option ℕ
first_time ss = option_map (λ s. s.time) (first_sight ss)

-- since when the label set is missing, where it is missing at the newest sight: the time of the
-- first sight of the gap
abbrev pub missing_since : List Sight → Option ℕ
missing_since ss = first_time (gap ss)

-- the active time that was moved to last, of these sights
abbrev pub last_moved : List Sight → Option ℕ
last_moved [] = None
last_moved (s ∷ earlier) = option_or s.moved (last_moved earlier)

-- The active time at a sight of an episode, by the sights of the episode before it: the one that was
-- moved to last, else the time of the episode's first sight.
abbrev pub active_at : Sight → List Sight → ℕ
active_at s earlier = unwrap_or (option_or (last_moved earlier) (first_time earlier)) s.time

-- whether the alert fires at a sight of an episode, if it did not before: there is an element, and
-- it has been active for as long as it has to be
abbrev pub is_long_enough : Sight → List Sight → Bool
is_long_enough s earlier = is_found s && nat_le (active_at s earlier + s.hold) s.time

-- when an episode fires: at the first such sight
abbrev pub fired_at : List Sight → Option ℕ
fired_at [] = None
fired_at (s ∷ earlier) = option_or (fired_at earlier) (cond (is_long_enough s earlier) (Some s.time) None)

-- whether a sight is less than its time to keep after the alert went missing
abbrev pub is_within : Sight → Option ℕ → Bool
is_within s None = false
is_within s (Some since) = nat_lt s.time (since + s.keep)

-- whether an episode keeps a sight without an element: the sight before it is in the episode, which
-- has fired, and it is not too late in its gap
abbrev pub is_kept : Sight → List Sight → List Sight → Bool
is_kept s earlier episode = is_some (fired_at episode) && is_within s (missing_since (s ∷ earlier))

-- The episode in which the newest sight stands, up to that sight; none where it stands in none. A
-- sight with an element goes on with the episode of the sight before it, or begins one.
abbrev pub episode : List Sight → List Sight
episode [] = []
episode (s ∷ earlier) = cond (is_found s || is_kept s earlier (episode earlier)) (s ∷ episode earlier) []

-- the last episode, and the sights after it
pub record Course : Type 0 where
  pub last : List Sight
  pub after : List Sight

abbrev pub course_by : List Sight → Sight → Course → Course
course_by [] s before = record { last = before.last; after = s ∷ before.after }
course_by (e ∷ es) s before = record { last = e ∷ es; after = [] }

abbrev pub course : List Sight → Course
course [] = record { last = []; after = [] }
course (s ∷ earlier) = course_by (episode (s ∷ earlier)) s (course earlier)

-- the last element of an episode
abbrev pub newest_found : List Sight → Option RuleElement
newest_found [] = None
newest_found (s ∷ earlier) = option_or s.found (newest_found earlier)
