-- How what is kept of a group of rules stands for a group, and over which heads it may be evaluated.
use Rattle.std.specs.Prelude.{◌≡◌, ℕ, pos, ◌-ℤ◌, Bool, true, false, cond, List, length, slice_get, Option, Some, None, option_and_then}
use Rattle.std.specs.Option.{option_map}
use Rattle.pr_ast.specs.pr_labels.declared.pair.Pair.{Pair}
use Rattle.pr_rule.specs.spec_history.declared.entry.Entry.{Entry}
use Rattle.pr_rule.specs.spec_history.private.Laws.{IsLawful}
use Rattle.pr_rule.specs.pr_head.private.Holds.{Holds, IsWhole}
use Rattle.pr_ast.specs.Tree.{tree_of}
use Rattle.pr_rule.specs.pr_tmpl.declared.template.External.{External}
use Rattle.pr_rule.specs.spec_rules.declared.definitions.GroupDef.{GroupDef}
use Rattle.pr_rule.specs.spec_rules.declared.definitions.RuleDef.{RuleDef}
use Rattle.pr_rule.specs.spec_rules.Definitions.{group_of_def, rule_of_def}
use Rattle.pr_rule.specs.spec_alerts.declared.record.Record.{Record}
use Rattle.pr_rule.specs.spec_meaning.private.Cost.{PassedFor, nothing_passed}
use Rattle.pr_rule.specs.pr_range.private.Asks.{LastAsks, Passed}
use Rattle.pr_rule.specs.pr_eval.private.Evaluated.{passed_outside}
use Rattle.pr_rule.specs.pr_head.private.Intake.{Series}
use Rattle.pr_rule.specs.spec_rules.private.Costs.{PassedByRules}
use Rattle.pr_rule.specs.spec_rules.Groups.{Group, RuleState}
use Rattle.pr_rule.specs.spec_rules.private.Laws.{definition_of}
use Rattle.pr_rule.specs.spec_rules.Settings.{Settings}
use Rattle.pr_group.specs.private.Asked.{WasAsked}
use Rattle.pr_group.specs.private.Within.{ArePassedWithin}
use Rattle.pr_rule.specs.declared.remembered.Remembered.{Remembered}
use Rattle.pr_rule.specs.private.Standing.{StandsForRule}

-- What is kept of a group: its definition and the name of its file; what the engine was told once;
-- what is remembered of each rule; its last evaluation; for how many evaluations more its alerts
-- wait to be restored; and the series that a reload left over.
pub record KeptGroup (R : Type 0) : Type 0 where
  pub def : GroupDef
  pub file : List ℕ
  pub step : ℕ
  pub external : External
  pub rules : List (Remembered R)
  pub last : Option ℕ
  pub waits : ℕ
  pub leftovers : List (List Pair)

-- What is remembered of a rule stands for it; what is kept of its ranges is true of the history; its
-- range selectors were asked last at some time until the last evaluation; and no more was passed
-- than stands until then.
pub record KeepsRule {R : Type 0} (fits : R → List Entry → Type 0) (last : R → LastAsks) (passed : R → Passed) (history : List Entry) (until : Option ℕ) (definition : RuleDef) (m : Remembered R) (r : RuleState) : Type 0 where
  pub stands : StandsForRule m.templates m.previous m.records (rule_of_def definition) r
  pub truly : fits m.ranges history
  pub asked : WasAsked (last m.ranges) (tree_of definition.expr) until
  pub within : ArePassedWithin history (last m.ranges) (passed m.ranges)

-- so of each rule, by its number
abbrev pub AreKept : {R : Type 0} → (R → List Entry → Type 0) → (R → LastAsks) → (R → Passed) → List Entry → Option ℕ → List RuleDef → List (Remembered R) → List RuleState → Type 0
AreKept {R} fits last passed history until definitions ms rs =
    (i : ℕ) (definition : RuleDef) (m : Remembered R) (r : RuleState) → slice_get definitions i ≡ Some definition → slice_get ms i ≡ Some m → slice_get rs i ≡ Some r → KeepsRule fits last passed history until definition m r

-- What is kept stands for the group over the history.
pub record KeepsGroup {R : Type 0} (fits : R → List Entry → Type 0) (last : R → LastAsks) (passed : R → Passed) (k : KeptGroup R) (history : List Entry) (g : Group) : Type 0 where
  pub definition : definition_of g ≡ group_of_def k.def
  pub file : k.file ≡ g.file
  pub until : k.last ≡ g.last
  pub waiting : k.waits ≡ g.waits
  pub left : k.leftovers ≡ g.leftovers
  pub many : length k.rules ≡ length k.def.rules
  pub rules : AreKept fits last passed history g.last k.def.rules k.rules g.rules

-- what the engine was told once
abbrev pub settings_of : {R : Type 0} → KeptGroup R → Settings
settings_of k = record { subquery_step = k.step; external = k.external }

-- How many samples were passed for each rule, by the number of the rule.
abbrev pub passed_for : {R : Type 0} → (R → Passed) → List Entry → Option (Remembered R) → PassedFor
passed_for passed history None = nothing_passed
passed_for passed history (Some m) = passed_outside false history (passed m.ranges)

abbrev pub passed_of : {R : Type 0} → (R → Passed) → List Entry → List (Remembered R) → PassedByRules
passed_of passed history ms i = passed_for passed history (slice_get ms i)

abbrev pub passed_by : {R : Type 0} → (R → Passed) → KeptGroup R → List Entry → PassedByRules
passed_by passed k history = passed_of passed history k.rules

-- a new group waits for two evaluations, or for none
abbrev pub waits_of : Bool → ℕ
waits_of true = 2
waits_of false = 0

-- The head stands for a lawful history, of which nothing is forgotten that is later than 45 days
-- before the time, which is how far an expression may look back.
pub record MayEvaluateOver (head : Series) (history : List Entry) (time : ℕ) : Type 0 where
  pub lawful : IsLawful history
  pub holds : Holds head history
  pub whole : IsWhole head history (pos time -ℤ pos 3888000000)

-- the alerts of the rule with a number, where it is an alert
abbrev pub alerts_of_rule : {R : Type 0} → List (Remembered R) → ℕ → RuleDef → Option (List Record)
alerts_of_rule ms i definition = cond definition.alert (option_map (λ m. m.records) (slice_get ms i)) None

abbrev pub alerts_at : {R : Type 0} → KeptGroup R → ℕ → Option (List Record)
alerts_at k i = option_and_then (alerts_of_rule k.rules i) (slice_get k.def.rules i)
