-- The printed lines of an evaluation, and of the alerts that are asked for.
use Rattle.std.specs.Prelude.{ℕ, ◌+◌, Bool, true, false, List, [], ◌∷◌, ◌++◌, length, codes, count_by, decimal, flat_map}
use Rattle.spec_world.specs.pr_num.declared.value.Num.{Num}
use Rattle.spec_world.specs.pr_num.declared.value.Point.{Point}
use Rattle.spec_world.specs.pr_num.Shown.{shown}
use Rattle.spec_world.specs.pr_labels.declared.pair.Pair.{Pair}
use Rattle.spec_world.specs.pr_labels.SeriesText.{series_text}
use Rattle.pr_words.specs.Appending.{number_text}
use Rattle.spec_world.specs.spec_history.declared.append.Append.{Append}
use Rattle.spec_world.specs.spec_history.declared.append.Append.TheVariants.{Added, Same, OutOfOrder, Conflict}
use Rattle.spec_world.specs.spec_history.Points.{shown_point}
use Rattle.spec_world.specs.spec_alerts.declared.restored.Restored.{Restored}
use Rattle.spec_world.specs.spec_alerts.Records.{state_text}
use Rattle.spec_world.specs.spec_rules.declared.fault.RuleFault.{RuleFault}
use Rattle.spec_world.specs.spec_rules.declared.fault.RuleFault.TheVariants.{Eval, SameAfterRule, LimitExceeded}
use Rattle.spec_world.specs.spec_rules.declared.report.GroupReport.{GroupReport}
use Rattle.spec_world.specs.spec_rules.declared.report.Put.{Put}
use Rattle.spec_world.specs.spec_rules.declared.report.RuleOutcome.{RuleOutcome}
use Rattle.spec_world.specs.spec_rules.declared.report.RuleOutcome.TheVariants.{Fine, Fault}
use Rattle.spec_world.specs.spec_rules.declared.report.RuleReport.{RuleReport}
use Rattle.spec_world.specs.declared.report.AlertLine.{AlertLine}
use Rattle.pr_text.specs.Answers.{evaluated_rules, limit_exceeded, late_after, same_after_rule}
use Rattle.pr_text.specs.Faults.{fault_text}
use Rattle.pr_text.specs.Notices.{sending_lines}
use Rattle.pr_text.specs.Values.{place_text}

-- Samples

abbrev pub sample_line : List Pair → Num → List ℕ
sample_line labels v = codes "sample " ++ series_text labels ++ codes " " ++ shown v ++ codes "\n"

abbrev pub late_line : List Pair → ℕ → List ℕ
late_line labels last = codes "dropped " ++ series_text labels ++ late_after ++ decimal last ++ codes "\n"

abbrev pub conflict_line : List Pair → Point → List ℕ
conflict_line labels kept = codes "dropped " ++ series_text labels ++ codes " Conflict " ++ shown_point kept ++ codes "\n"

-- one that the series shows then is a sample; another one is dropped
abbrev pub put_line_by : Append → List Pair → Num → List ℕ
put_line_by Added labels v = sample_line labels v
put_line_by Same labels v = sample_line labels v
put_line_by (OutOfOrder last) labels v = late_line labels last
put_line_by (Conflict kept) labels v = conflict_line labels kept

abbrev pub put_line : Put → List ℕ
put_line p = put_line_by p.append p.labels p.value

-- a series that goes stale
abbrev pub stale_line : List Pair → List ℕ
stale_line labels = codes "stale " ++ series_text labels ++ codes "\n"

-- Rules

abbrev pub rule_fault_text : RuleFault → List ℕ
rule_fault_text (Eval kind) = fault_text kind
rule_fault_text (SameAfterRule labels) = same_after_rule ++ series_text labels
rule_fault_text (LimitExceeded limit have) = limit_exceeded ++ number_text limit ++ number_text have

abbrev pub outcome_text : RuleOutcome → List ℕ
outcome_text Fine = codes " ok\n"
outcome_text (Fault place kind) = codes " fault " ++ rule_fault_text kind ++ place_text place

-- a rule by its number, from 1
abbrev pub rule_lines : ℕ → RuleReport → List ℕ
rule_lines number r =
    codes "rule " ++ decimal number ++ outcome_text r.outcome ++ flat_map put_line r.samples ++ flat_map stale_line r.stale ++ flat_map sending_lines r.sent

abbrev pub rules_text : ℕ → List RuleReport → List ℕ
rules_text number [] = []
rules_text number (r ∷ rules) = rule_lines number r ++ rules_text (number + 1) rules

abbrev pub restored_line : Restored → List ℕ
restored_line a = codes "restored " ++ series_text a.labels ++ codes " active " ++ decimal a.active ++ codes "\n"

abbrev pub has_failed : RuleOutcome → Bool
has_failed Fine = false
has_failed (Fault place kind) = true

abbrev pub fault_count : List RuleReport → ℕ
fault_count rules = count_by (λ r. has_failed r.outcome) rules

-- how many rules there are, and how many of them failed
abbrev pub counts_text : List RuleReport → List ℕ
counts_text rules = evaluated_rules ++ decimal (length rules) ++ codes " faults " ++ decimal (fault_count rules) ++ codes "\n"

-- the rules, what a reload left over, what is restored, and the counts
abbrev pub evaluated_text : GroupReport → List ℕ
evaluated_text g = rules_text 1 g.rules ++ flat_map stale_line g.leftovers ++ flat_map restored_line g.restored ++ counts_text g.rules

-- Alerts

abbrev pub alert_text : AlertLine → List ℕ
alert_text a =
    codes "alert " ++ state_text a.state ++ codes " " ++ series_text a.labels ++ codes " active " ++ decimal a.active ++ codes " value " ++ shown a.value ++ codes "\n"

abbrev pub alerts_text : List AlertLine → List ℕ
alerts_text list = codes "alerts " ++ decimal (length list) ++ codes "\n" ++ flat_map alert_text list
