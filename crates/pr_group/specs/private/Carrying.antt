-- How what is remembered of rules goes on from that of older ones.
use Rattle.std.specs.Prelude.{◌≡◌, ℕ, ◌≤◌, ◌++◌, List, [], flat_map, length, slice_get, slice_set, take, Option, Some, None}
use Rattle.pr_ast.specs.pr_labels.declared.pair.Pair.{Pair}
use Rattle.pr_rule.specs.spec_history.declared.entry.Entry.{Entry}
use Rattle.pr_ast.specs.Tree.{Tree, tree_of}
use Rattle.pr_rule.specs.pr_types.private.Checking.{MayEvaluate}
use Rattle.pr_rule.specs.spec_rules.declared.definitions.RuleDef.{RuleDef}
use Rattle.pr_rule.specs.pr_range.private.Asks.{LastAsks, Passed}
use Rattle.pr_rule.specs.pr_range.private.Carried.{IsCarried}
use Rattle.pr_rule.specs.spec_vectors.Vectors.{in_label_order}
use Rattle.pr_rule.specs.spec_rules.private.Carried.{carried_numbers}
use Rattle.pr_rule.specs.spec_rules.private.Laws.{numbers_taken}
use Rattle.pr_rule.specs.declared.remembered.Remembered.{Remembered}
use Rattle.pr_group.specs.private.Keeping.{KeptGroup}
use Rattle.pr_group.specs.private.Matching.{continues_def, spared}

-- What is remembered of a rule goes on from that of an older one: the series that it wrote and its
-- alerts are taken over, and each of its range selectors that goes on from one of the older
-- expression has what that one had. Its templates stay.
pub record GoesOn {R : Type 0} (fits : R → List Entry → Type 0) (last : R → LastAsks) (passed : R → Passed) (tree older : Tree) (before from after : Remembered R) : Type 0 where
  pub templates : after.templates ≡ before.templates
  pub previous : after.previous ≡ from.previous
  pub records : after.records ≡ from.records
  pub truly : (history : List Entry) → fits from.ranges history → fits after.ranges history
  pub ranges : IsCarried (carried_numbers tree older) (last from.ranges) (last after.ranges) (passed from.ranges) (passed after.ranges)
  pub tree_checked : MayEvaluate tree
  pub older_checked : MayEvaluate older

-- It goes on from the older one with this number.
pub record GoesOnFrom {R : Type 0} (fits : R → List Entry → Type 0) (last : R → LastAsks) (passed : R → Passed) (definition : RuleDef) (older : List RuleDef) (olds : List (Remembered R)) (number : ℕ) (before after : Remembered R) : Type 0 where
  pub from_code : RuleDef
  pub from : Remembered R
  pub code_there : slice_get older number ≡ Some from_code
  pub from_there : slice_get olds number ≡ Some from
  pub goes_on : GoesOn fits last passed (tree_of definition.expr) (tree_of from_code.expr) before from after

-- it goes on from the one that is named for it; where none is, it stays as it was
abbrev pub GoesOnBy : {R : Type 0} → (R → List Entry → Type 0) → (R → LastAsks) → (R → Passed) → RuleDef → List RuleDef → List (Remembered R) → Option ℕ → Remembered R → Remembered R → Type 0
GoesOnBy fits last passed definition older olds None before after = after ≡ before
GoesOnBy fits last passed definition older olds (Some number) before after = GoesOnFrom fits last passed definition older olds number before after

-- The same where the older ones stand to be taken: one that is still there.
abbrev pub MayGoOn : {R : Type 0} → (R → List Entry → Type 0) → (R → LastAsks) → (R → Passed) → RuleDef → List RuleDef → List (Option (Remembered R)) → Option ℕ → Remembered R → Remembered R → Type 0
MayGoOn fits last passed definition older olds None before after = after ≡ before
MayGoOn {R} fits last passed definition older olds (Some number) before after =
    (from_code : RuleDef) (from : Remembered R) → slice_get older number ≡ Some from_code → slice_get olds number ≡ Some (Some from) → GoesOn fits last passed (tree_of definition.expr) (tree_of from_code.expr) before from after

-- what is left when the one that is named is taken
abbrev pub without_named : {A : Type 0} → Option ℕ → List (Option A) → List (Option A)
without_named None olds = olds
without_named (Some number) olds = slice_set olds number None

-- so of each for which it is told, by its number
abbrev pub HaveGoneOn : {R : Type 0} → (R → List Entry → Type 0) → (R → LastAsks) → (R → Passed) → List RuleDef → List RuleDef → List (Remembered R) → List (Option ℕ) → List (Remembered R) → List (Remembered R) → Type 0
HaveGoneOn {R} fits last passed definitions older olds from befores afters =
    (i : ℕ) (definition : RuleDef) (choice : Option ℕ) (before after : Remembered R) → slice_get definitions i ≡ Some definition → slice_get from i ≡ Some choice → slice_get befores i ≡ Some before → slice_get afters i ≡ Some after
    → GoesOnBy fits last passed definition older olds choice before after

-- what one wrote last that is left
abbrev pub previous_in : {R : Type 0} → Option (Remembered R) → List (List Pair)
previous_in None = []
previous_in (Some m) = m.previous

-- The rules before a number have gone on, and the others not yet.
pub record GoneSoFar {R : Type 0} (fits : R → List Entry → Type 0) (last : R → LastAsks) (passed : R → Passed) (definitions older : List RuleDef) (befores olds : List (Remembered R)) (from : List (Option ℕ)) (i : ℕ) (own : List (Remembered R)) (stored : List (Option (Remembered R))) : Type 0 where
  pub gone : HaveGoneOn fits last passed definitions older olds (take i from) befores own
  pub rest : (j : ℕ) → i ≤ j → slice_get own j ≡ slice_get befores j
  pub left : stored ≡ spared (take i from) olds

-- A group has gone on from an older one: each rule from the older one that is named for it; what the
-- others wrote last is left over; and its last evaluation and its waiting are those of the older
-- one.
pub record HasGoneOn {R : Type 0} (fits : R → List Entry → Type 0) (last : R → LastAsks) (passed : R → Passed) (before old after : KeptGroup R) : Type 0 where
  pub from : List (Option ℕ)
  pub numbers : from ≡ numbers_taken continues_def before.def.rules old.def.rules
  pub rules : HaveGoneOn fits last passed before.def.rules old.def.rules old.rules from before.rules after.rules
  pub size : length after.rules ≡ length before.rules
  pub new_size : length before.rules ≡ length before.def.rules
  pub old_size : length old.rules ≡ length old.def.rules
  pub left : after.leftovers ≡ in_label_order (old.leftovers ++ flat_map previous_in (spared from old.rules))
  pub last_is : after.last ≡ old.last
  pub waits_are : after.waits ≡ old.waits
  pub def : after.def ≡ before.def
  pub file : after.file ≡ before.file
  pub step : after.step ≡ before.step
  pub external : after.external ≡ before.external
