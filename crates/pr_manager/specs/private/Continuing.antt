-- New groups that go on from old ones. Private contracts cite this: a reader can pass it over.
use Rattle.std.specs.Prelude.{◌≡◌, ℕ, List, Option, Some, None}
use Rattle.std.specs.List.{AllZip}
use Rattle.spec_world.specs.spec_history.declared.entry.Entry.{Entry}
use Rattle.pr_group.specs.pr_range.private.Asks.{LastAsks, Passed}
use Rattle.spec_world.specs.spec_rules.Definitions.{Group as Definition}
use Rattle.spec_world.specs.spec_rules.Groups.{Group, fresh}
use Rattle.spec_world.specs.spec_rules.Reloads.{continued_by}
use Rattle.pr_group.specs.private.Keeping.{KeepsGroup, KeptGroup, passed_by, settings_of}
use Rattle.pr_manager.specs.declared.naming.GroupName.{GroupName}
use Rattle.pr_manager.specs.private.Loading.{HasPassedNothing}
use Rattle.pr_manager.specs.private.Naming.{name_of, passed_by_any}
use Rattle.pr_manager.specs.private.Passing.{taken_over}

-- a group that may be there is kept, and one that is not there is not
abbrev pub KeepsAny : {R : Type 0} → (R → List Entry → Type 0) → (R → LastAsks) → (R → Passed) → List Entry → Option (KeptGroup R) → Option Group → Type 0
KeepsAny fits last passed history None None = Unit {0}
KeepsAny fits last passed history None (Some g) = ⊥
KeepsAny fits last passed history (Some k) None = ⊥
KeepsAny fits last passed history (Some k) (Some g) = KeepsGroup fits last passed k history g

-- What is kept of a new group, to which nothing has happened, has gone on from an old one, or from
-- none: of each group that the new one stands for and of each that the old one stands for. So has what
-- was passed.
pub record Continues {R : Type 0} (fits : R → List Entry → Type 0) (last : R → LastAsks) (passed : R → Passed) (new : KeptGroup R) (old : Option (KeptGroup R)) (done : KeptGroup R) : Type 0 where
  pub keeps : (history : List Entry) (waits : ℕ) (file : List ℕ) (d : Definition) (was : Option Group) → KeepsGroup fits last passed new history (fresh waits file d)
      → KeepsAny fits last passed history old was → KeepsGroup fits last passed done history (continued_by (fresh waits file d) was)
  pub passing : HasPassedNothing passed new → (history : List Entry) (waits : ℕ) (file : List ℕ) (d : Definition) (was : Option Group) → KeepsGroup fits last passed new history (fresh waits file d)
      → KeepsAny fits last passed history old was → passed_by passed done history ≡ taken_over was (fresh waits file d) (passed_by_any passed history old)
  pub def : done.def ≡ new.def
  pub file : done.file ≡ new.file
  pub settings : settings_of done ≡ settings_of new

-- so of each, where the old ones are found by name
abbrev pub EachContinues : {R : Type 0} → (R → List Entry → Type 0) → (R → LastAsks) → (R → Passed) → (GroupName → Option (KeptGroup R)) → List (KeptGroup R) → List (KeptGroup R) → Type 0
EachContinues fits last passed old news dones = AllZip (λ new done. Continues fits last passed new (old (name_of new)) done) news dones
