-- When the rules of a group were evaluated: at rising times, and at none above the group's last.
use Rattle.std.specs.Prelude.{ℕ, ◌+◌, ◌<◌, List, [], ◌∷◌, reverse, Option, Some, None}
use Rattle.std.specs.List.{AllByRecursion}
use Rattle.spec_alerts.specs.Lineage.{Occurrence, seen, moved}
use Rattle.spec_rules.specs.Groups.{Group, RuleState}

-- Of these entries, of which the newest stands first, each evaluation is after those before it, and
-- all are before a time.
abbrev pub AreBefore : ℕ → List Occurrence → Type 0
AreBefore time [] = Unit {0}
AreBefore time (seen e ∷ earlier) = (e.time < time) × AreBefore e.time earlier
AreBefore time (moved alerts ∷ earlier) = AreBefore time earlier

-- a group that was not evaluated has no evaluated rules
abbrev pub AreUntil : Option ℕ → List Occurrence → Type 0
AreUntil None [] = Unit {0}
AreUntil None (seen e ∷ earlier) = ⊥
AreUntil None (moved alerts ∷ earlier) = AreUntil None earlier
AreUntil (Some last) steps = AreBefore (last + 1) steps

abbrev pub IsOnTime : Option ℕ → RuleState → Type 0
IsOnTime last r = AreUntil last (reverse r.lineage)

abbrev pub IsTimely : Group → Type 0
IsTimely g = AllByRecursion (IsOnTime g.last) g.rules

-- a time at which a group may be evaluated
abbrev pub IsAfter : ℕ → Option ℕ → Type 0
IsAfter now None = Unit {0}
IsAfter now (Some last) = last < now

-- a time at which each of these groups may be evaluated
abbrev pub IsAfterAll : ℕ → List Group → Type 0
IsAfterAll time groups = AllByRecursion (λ g. IsAfter time g.last) groups
