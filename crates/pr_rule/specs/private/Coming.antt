-- How an answer stands to what a rule comes to.
use Rattle.std.specs.Prelude.{◌≡◌, List, Result, Ok, Err, Vec}
use Rattle.std.specs.declared.alloc.Global.{Global}
use Rattle.spec_rules.specs.spec_alerts.declared.found.RuleElement.{RuleElement}
use Rattle.spec_rules.specs.declared.fault.RuleFailure.{RuleFailure}
use Rattle.pr_rule.specs.declared.rule_result.error.RuleError.{RuleError}
use Rattle.pr_rule.specs.declared.rule_result.error.RuleError.TheVariants.{Failed, Memory}

-- An answer is what is meant: the elements, or the fault. Of want of memory nothing is said.
abbrev pub ComesTo : Result (List RuleElement) RuleFailure → Result (Vec RuleElement Global) RuleError → Type 0
ComesTo meant (Ok v) = meant ≡ Ok v.items
ComesTo meant (Err (Failed failure)) = meant ≡ Err failure
ComesTo meant (Err Memory) = Unit {0}
