-- Groups by their files and names.
use Rattle.std.specs.Prelude.{◌≡◌, ℕ, Bool, false, ◌&&◌, List, [], ◌∷◌, find, map, Option, Some, None}
use Rattle.std.specs.List.{list_any}
use Rattle.std.specs.Map.{lookup}
use Rattle.std.specs.Str.{bytes_eq}
use Rattle.spec_world.specs.spec_history.declared.entry.Entry.{Entry}
use Rattle.pr_group.specs.pr_range.private.Asks.{Passed}
use Rattle.spec_world.specs.spec_meaning.private.Cost.{nothing_passed}
use Rattle.spec_world.specs.spec_rules.private.Costs.{PassedByRules}
use Rattle.spec_world.specs.spec_rules.Groups.{Group}
use Rattle.pr_group.specs.private.Keeping.{KeptGroup, passed_by}
use Rattle.pr_manager.specs.declared.naming.GroupName.{GroupName}
use Rattle.pr_manager.specs.private.Keeping.{KeptManager}

-- the first group that is kept of a file and a name
abbrev pub is_kept_named : {R : Type 0} → List ℕ → List ℕ → KeptGroup R → Bool
is_kept_named file name k = bytes_eq k.file file && bytes_eq k.def.name name

abbrev pub kept_named : {R : Type 0} → List ℕ → List ℕ → List (KeptGroup R) → Option (KeptGroup R)
kept_named file name ks = find (is_kept_named file name) ks

-- what was passed by it; nothing, where there is none
abbrev pub passed_by_any : {R : Type 0} → (R → Passed) → List Entry → Option (KeptGroup R) → PassedByRules
passed_by_any passed history None = λ i. nothing_passed
passed_by_any passed history (Some k) = passed_by passed k history

abbrev pub passed_by_named : {R : Type 0} → (R → Passed) → KeptManager R → List Entry → List ℕ → List ℕ → PassedByRules
passed_by_named passed k history file name = passed_by_any passed history (kept_named file name k.groups)

-- File and name as one. Private contracts cite what follows.
abbrev pub name_of : {R : Type 0} → KeptGroup R → GroupName
name_of k = record { file = k.file; name = k.def.name }

abbrev pub site_of : Group → GroupName
site_of g = record { file = g.file; name = g.name }

abbrev pub same_name : GroupName → GroupName → Bool
same_name a b = bytes_eq a.file b.file && bytes_eq a.name b.name

-- the value of a name in a list of names with values
abbrev pub value_of : {V : Type 0} → List (GroupName × V) → GroupName → Option V
value_of entries name = lookup (same_name name) entries

abbrev pub first_of : {V : Type 0} → Option V → Option V → Option V
first_of (Some v) later = Some v
first_of None later = later

-- the first group that is kept under a name
abbrev pub kept_under : {R : Type 0} → GroupName → List (KeptGroup R) → Option (KeptGroup R)
kept_under name ks = find (λ k. same_name (name_of k) name) ks

abbrev pub is_among : GroupName → List GroupName → Bool
is_among name names = list_any (λ n. same_name n name) names

-- no name comes twice
abbrev pub comes_again : GroupName → List GroupName → Bool
comes_again name names = list_any (same_name name) names

abbrev pub AreApart : List GroupName → Type 0
AreApart [] = Unit {0}
AreApart (name ∷ names) = (comes_again name names ≡ false) × AreApart names

abbrev pub names_of : {R : Type 0} → List (KeptGroup R) → List GroupName
names_of ks = map (λ k. name_of k) ks
