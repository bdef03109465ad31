use Rattle.pr_rule.proofs.Sampled.{in_order_if}
use Rattle.pr_rule.proofs.alert.records.Records.samples.Goals as goal

pub returns-clause-in_order : goal.returns-clause-in_order
returns-clause-in_order c = in_order_if (λ v. v.items) c.samples.result c.deref.result.now c.samples.ensures
