-- How many samples an evaluation of a group reads at most.
use Rattle.std.specs.Prelude.{ℕ, ◌+◌, ◌==◌, Bool, ◌&&◌, cond, nat_le, List, [], ◌∷◌, sum_by}
use Rattle.spec_alerts.specs.spec_history.declared.entry.Entry.{Entry}
use Rattle.spec_meaning.specs.private.Cost.{PassedFor, cost}
use Rattle.spec_alerts.specs.Records.{living_count, records}
use Rattle.spec_alerts.specs.Restoring.{grace_period}
use Rattle.spec_rules.specs.Evaluations.{RulesProgress, all_rules, begun, one_rule}
use Rattle.spec_rules.specs.Groups.{Group, RuleState}
use Rattle.spec_rules.specs.Settings.{Settings}

-- How many samples were passed: by rule, by range selector, and by series. The rules go by their
-- numbers, from 0.
abbrev pub PassedByRules : Type 0
PassedByRules = ℕ → PassedFor

-- each rule over the history as it then stands
abbrev pub rules_cost : Settings → Group → ℕ → PassedByRules → ℕ → List RuleState → RulesProgress → ℕ
rules_cost s g now u i [] p = 0
rules_cost s g now u i (r ∷ rules) p = cost s.subquery_step p.history (u i) r.rule.expr 0 now + rules_cost s g now u (i + 1) rules (one_rule s g now p r)

-- a restoration reads one sample of each alert whose time it may move
abbrev pub restored_reads : RuleState → ℕ
restored_reads r = cond (r.rule.alert && nat_le grace_period r.rule.hold) (living_count (records r.lineage)) 0

abbrev pub restoring_cost : Bool → List RuleState → ℕ
restoring_cost due rules = cond due (sum_by restored_reads rules) 0

abbrev pub group_cost : Settings → Group → List Entry → ℕ → PassedByRules → ℕ
group_cost s g history now u = rules_cost s g now u 0 g.rules (begun history) + restoring_cost (g.waits == 1) (all_rules s g history now).rules
