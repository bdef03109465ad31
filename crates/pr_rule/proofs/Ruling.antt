-- What a rule comes to, by the answer of its expression.
use Rattle.std.proofs.Common.{◌≡◌, ℕ, Result, Ok, Err, sym, ap, subst}
use Rattle.std.specs.Prelude.{Vec}
use Rattle.std.specs.declared.alloc.Global.{Global}
use Rattle.pr_ast.specs.declared.place.Place.{Place}
use Rattle.spec_rules.specs.pr_tmpl.declared.template.External.{External}
use Rattle.spec_rules.specs.Definitions.{Rule}
use Rattle.spec_rules.specs.spec_alerts.declared.found.RuleElement.{RuleElement}
use Rattle.spec_rules.specs.spec_meaning.declared.fault.Fault.{Fault}
use Rattle.spec_rules.specs.spec_meaning.declared.fault.FaultKind.{FaultKind}
use Rattle.spec_rules.specs.spec_meaning.declared.value.Value.{Value}
use Rattle.spec_rules.specs.spec_meaning.Answers.{fault}
use Rattle.spec_rules.specs.declared.fault.RuleFault.TheVariants.{Eval}
use Rattle.spec_rules.specs.Results.{failed_by, failure, rule_result_by, ruled, value_elements, without_place}
use Rattle.pr_rule.specs.declared.rule_result.error.RuleError.{RuleError}
use Rattle.pr_rule.specs.private.Coming.{ComesTo}

-- of a value, and of a fault
pub by_value : (meant : Result Value Fault) (v : Value) (external : External) (limit : ℕ) (rule : Rule) (r : Result (Vec RuleElement Global) RuleError) → meant ≡ Ok v
    → ComesTo (without_place (ruled external limit rule (value_elements v))) r → ComesTo (rule_result_by external limit rule (failed_by meant)) r
by_value meant v external limit rule r e h = subst (λ (m : Result Value Fault). ComesTo (rule_result_by external limit rule (failed_by m)) r) (sym e) h

pub by_fault : (meant : Result Value Fault) (place : Place) (kind : FaultKind) (external : External) (limit : ℕ) (rule : Rule) → meant ≡ Err (fault place kind)
    → rule_result_by external limit rule (failed_by meant) ≡ Err (failure place.start (Eval kind))
by_fault meant place kind external limit rule e = ap (λ (m : Result Value Fault). rule_result_by external limit rule (failed_by m)) e
