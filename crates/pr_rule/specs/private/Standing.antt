-- How what is remembered of a rule stands for it, and the step of a rule in code.
use Rattle.std.specs.Prelude.{◌≡◌, ℕ, Bool, true, nat_lt, List, Option}
use Rattle.pr_labels.specs.declared.pair.Pair.{Pair}
use Rattle.spec_rules.specs.spec_history.declared.entry.Entry.{Entry}
use Rattle.spec_rules.specs.pr_tmpl.declared.template.External.{External}
use Rattle.spec_rules.specs.spec_alerts.declared.record.Record.{Record}
use Rattle.spec_rules.specs.spec_alerts.Lineage.{previous}
use Rattle.spec_rules.specs.Definitions.{Rule}
use Rattle.spec_rules.specs.declared.report.RuleReport.{RuleReport}
use Rattle.spec_rules.specs.Evaluations.{RuleStep}
use Rattle.spec_rules.specs.Groups.{Group, RuleState}
use Rattle.spec_rules.specs.Settings.{Settings}
use Rattle.pr_eval.specs.pr_head.private.Intake.{PutsIf, Series}
use Rattle.pr_rule.specs.private.AlertStanding.{StandsFor}
use Rattle.pr_rule.specs.declared.rule_result.templates.RuleTemplates.{RuleTemplates}
use Rattle.pr_rule.specs.private.Templates.{IsTemplatesOf}

-- The step of subqueries and the external texts are those of the settings; limit, interval and
-- waiting are those of the group.
pub record IsEvaluationOf (blank : ℕ) (outside : External) (most : ℕ) (every : Option ℕ) (waiting : Bool) (s : Settings) (g : Group) : Type 0 where
  pub step : blank ≡ s.subquery_step
  pub external : outside ≡ s.external
  pub limit : most ≡ g.limit
  pub interval : every ≡ g.interval
  pub waits : waiting ≡ nat_lt 0 g.waits

-- The templates are the rule's, the series are what it wrote last, and where it is an alert the
-- records are its alerts.
pub record StandsForRule (known : RuleTemplates) (wrote : List (List Pair)) (alerts : List Record) (definition : Rule) (r : RuleState) : Type 0 where
  pub rule : definition ≡ r.rule
  pub templates : IsTemplatesOf known r.rule
  pub previous : wrote ≡ previous r.lineage
  pub records : r.rule.alert ≡ true → StandsFor alerts r.lineage

-- A rule came this step: the head has taken its entries; and where that is told, what was added
-- stands behind the rows, and the report is that of the step.
pub record HasStepped (tells : Bool) (old new : Series) (rows more : List Entry) (answer : RuleReport) (history : List Entry) (step : RuleStep) : Type 0 where
  pub puts : PutsIf tells old new rows more history step.entries
  pub report : tells ≡ true → answer ≡ step.report
