use Rattle.std.proofs.Common.{◌≡◌, List, Ok, Result, subst, ◌∙◌}
use Rattle.pr_ast.specs.pr_num.declared.value.Num.{Num}
use Rattle.pr_labels.specs.declared.item.Item.{Item}
use Rattle.spec_rules.specs.spec_meaning.declared.value.Value.{Value}
use Rattle.pr_eval.specs.private.Answers.{AnswersTo}
use Rattle.pr_eval.specs.declared.values.error.EvalError.{EvalError}
use Rattle.spec_rules.specs.Definitions.{rule_of_def}
use Rattle.spec_rules.specs.Results.{ruled, without_place}
use Rattle.pr_rule.specs.private.Coming.{ComesTo}
use Rattle.pr_rule.proofs.Ruling.{by_value}
use Rattle.pr_rule.proofs.rule_result.comes.rule_result.Goals as goal

pub returns-in_ok-elements-in-Ok-clause-comes : goal.returns-in_ok-elements-in-Ok-clause-comes
returns-in_ok-elements-in-Ok-clause-comes c = λ meant answers templates.
    let rule = rule_of_def c.args.rule.now in
    let e : meant ≡ Ok c.in-Ok.value = subst (λ (given : Result Value EvalError). AnswersTo meant given) c.in-Ok.is answers in
    by_value meant c.in-Ok.value c.args.external.now c.args.limit rule c.ruled.result e
    (subst (λ (l : List (Item Num)). ComesTo (without_place (ruled c.args.external.now c.args.limit rule l)) c.ruled.result) (c.deref.ensures.value ∙ c.in_ok-elements-in-Ok.ensures) (c.ruled.ensures.comes templates c.in_ok-fit-in-Ok.ensures))
