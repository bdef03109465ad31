use Rattle.std.proofs.Common.{◌≡◌, map, take}
use Rattle.spec_rules.specs.Definitions.{rule_of_def}
use Rattle.spec_rules.specs.Results.{found_of}
use Rattle.pr_rule.specs.private.Rows.{AreRows}
use Rattle.pr_rule.specs.private.Making.{IsOfRule}
use Rattle.pr_rule.specs.private.Templates.{IsTemplatesOf}
use Rattle.pr_rule.proofs.rule_result.ruled.all_found.Given as goal

-- the first ones were put
abbrev pub invariant-loop-place : goal.invariant-loop-place
invariant-loop-place l = record {
  puts : IsTemplatesOf l.templates (rule_of_def l.rule) → IsOfRule l.initial.made (rule_of_def l.rule) → AreRows (map (found_of l.external (rule_of_def l.rule)) (take l.place l.items)) l.rows;
  stays : l.made ≡ l.initial.made;
}
