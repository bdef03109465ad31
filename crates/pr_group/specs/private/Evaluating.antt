-- What becomes of a rule in the evaluation of its group, and how far the rules have come.
use Rattle.std.specs.Prelude.{◌≡◌, ℕ, ◌≤◌, ◌<◌, Bool, true, false, List, length, take, slice_get, fold, Option, Some, IfSome}
use Rattle.pr_rule.specs.spec_history.declared.entry.Entry.{Entry}
use Rattle.pr_rule.specs.spec_history.Admission.{put_all}
use Rattle.pr_rule.specs.pr_tmpl.declared.template.External.{External}
use Rattle.pr_rule.specs.spec_rules.declared.definitions.RuleDef.{RuleDef}
use Rattle.pr_rule.specs.spec_rules.Definitions.{rule_of_def}
use Rattle.pr_rule.specs.pr_range.private.Asks.{LastAsks, Passed}
use Rattle.pr_rule.specs.pr_range.private.Carried.{IsFresh}
use Rattle.pr_rule.specs.pr_eval.private.Evaluated.{passed_outside}
use Rattle.pr_rule.specs.pr_head.private.Intake.{PutsIf, Series}
use Rattle.pr_rule.specs.spec_rules.declared.report.RuleReport.{RuleReport}
use Rattle.pr_rule.specs.spec_rules.Evaluations.{RulesProgress, begun, one_rule, rule_step, with_lineage}
use Rattle.pr_rule.specs.spec_rules.Groups.{Group, RuleState, fresh_rule}
use Rattle.pr_rule.specs.spec_rules.private.Passed.{IsPassedByRule}
use Rattle.pr_rule.specs.spec_rules.Settings.{Settings}
use Rattle.pr_rule.specs.declared.remembered.Remembered.{Remembered}
use Rattle.pr_rule.specs.private.Standing.{HasStepped, IsEvaluationOf, StandsForRule}
use Rattle.pr_group.specs.private.Keeping.{AreKept, KeepsRule, MayEvaluateOver}

-- A rule was evaluated over a history: the head took its entries, and it is told so where that is
-- told; what is remembered stands for it over the history with them; and what was passed is known
-- where asks are remembered.
pub record HasDone {R : Type 0} (fits : R → List Entry → Type 0) (last : R → LastAsks) (passed : R → Passed) (keeps tells : Bool) (s : Settings) (g : Group) (r : RuleState) (history : List Entry) (now : ℕ) (definition : RuleDef) (before after : Remembered R) (old new : Series) (rows more : List Entry) (answer : RuleReport) : Type 0 where
  pub stepped : HasStepped tells old new rows more answer history (rule_step s g r history now)
  pub kept : KeepsRule fits last passed (put_all history (rule_step s g r history now).entries) (Some now) definition after (with_lineage r (rule_step s g r history now).lineage)
  pub passing : keeps ≡ true → IsPassedByRule s g r history now (passed_outside false history (passed before.ranges)) (passed_outside false (put_all history (rule_step s g r history now).entries) (passed after.ranges))

-- Nothing has happened to a rule, and nothing was asked of its ranges.
pub record IsNew {R : Type 0} (fits : R → List Entry → Type 0) (last : R → LastAsks) (passed : R → Passed) (definition : RuleDef) (m : Remembered R) : Type 0 where
  pub stands : StandsForRule m.templates m.previous m.records (rule_of_def definition) (fresh_rule (rule_of_def definition))
  pub fresh : IsFresh (last m.ranges) (passed m.ranges)
  pub truly : (history : List Entry) → fits m.ranges history

-- so of the first rules of a group, of which no others are remembered
pub record AreNew {R : Type 0} (fits : R → List Entry → Type 0) (last : R → LastAsks) (passed : R → Passed) (definitions : List RuleDef) (ms : List (Remembered R)) (n : ℕ) : Type 0 where
  pub many : length ms ≡ n
  pub each : (i : ℕ) (definition : RuleDef) (m : Remembered R) → slice_get definitions i ≡ Some definition → slice_get ms i ≡ Some m → IsNew fits last passed definition m

-- Rules of a group that may be evaluated at a time over a head.
pub record MayEvaluateRules {R : Type 0} (fits : R → List Entry → Type 0) (last : R → LastAsks) (passed : R → Passed) (blank : ℕ) (outside : External) (most : ℕ) (every : Option ℕ) (waiting : Bool) (s : Settings) (g : Group) (head : Series) (history : List Entry) (now : ℕ) (until : Option ℕ) (definitions : List RuleDef) (ms : List (Remembered R)) : Type 0 where
  pub evaluation : IsEvaluationOf blank outside most every waiting s g
  pub over : MayEvaluateOver head history now
  pub early : IfSome until (λ u. u ≤ now)
  pub many : length definitions ≡ length g.rules
  pub kept : AreKept fits last passed history until definitions ms g.rules

-- how far an evaluation has come after so many rules
abbrev pub come_to : Settings → Group → List Entry → ℕ → ℕ → RulesProgress
come_to s g history now n = fold (one_rule s g now) (begun history) (take n g.rules)

-- So many rules were evaluated, and this is how far that has come: the head is that of it, and so
-- are the rows and the reports where they are told; the rules that were evaluated are kept, and the
-- others are as they were.
pub record HasCome {R : Type 0} (fits : R → List Entry → Type 0) (last : R → LastAsks) (passed : R → Passed) (keeps tells : Bool) (s : Settings) (g : Group) (history : List Entry) (now : ℕ) (definitions : List RuleDef) (before after : List (Remembered R)) (old new : Series) (rows more : List Entry) (told : List RuleReport) (n : ℕ) (p : RulesProgress) : Type 0 where
  pub puts : PutsIf tells old new rows more history p.entries
  pub behind : p.history ≡ put_all history p.entries
  pub reports : tells ≡ true → told ≡ p.reports
  pub counted : length p.rules ≡ n
  pub many : length after ≡ length before
  pub done : AreKept fits last passed p.history (Some now) definitions after p.rules
  pub later : (j : ℕ) → n ≤ j → slice_get after j ≡ slice_get before j
  pub passing : keeps ≡ true → (j : ℕ) (m k : Remembered R) (r : RuleState) → j < n → slice_get before j ≡ Some m → slice_get after j ≡ Some k → slice_get g.rules j ≡ Some r
      → IsPassedByRule s g r (come_to s g history now j).history now (passed_outside false history (passed m.ranges)) (passed_outside false p.history (passed k.ranges))
