use Rattle.std.proofs.Common.{◌≡◌, true, Result, Ok, Err, refl}
use Rattle.std.specs.Prelude.{IfOk}
use Rattle.pr_rule.specs.spec_rules.Evaluations.{group_step}
use Rattle.pr_group.specs.private.Keeping.{settings_of}
use Rattle.pr_group.proofs.group.GroupOver.evaluate.Goals as goal

-- what holds of an answer where something is told
if_told : {T E : Type 0} (o : Result T E) (P : T → Type 0) → IfOk o (λ v. true ≡ true → P v) → IfOk o P
if_told (Ok v) P h = h refl
if_told (Err e) P h = tt

pub returns-clause-report : goal.returns-clause-report
returns-clause-report g c = λ history group over keeps later.
    if_told c.evaluate_by.result (λ r. r ≡ (group_step (settings_of c.args.self.now) group history c.args.time).report)
    (c.evaluate_by.ensures.report history group over keeps later)
