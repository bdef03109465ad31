use Rattle.std.proofs.Common.{◌∙◌}
use Rattle.pr_ast.specs.Tree.{tree_of}
use Rattle.pr_rule.specs.spec_rules.private.Carried.{range_uses}
use Rattle.pr_group.proofs.Chosen.{each_below, each_once}
use Rattle.pr_group.proofs.continued.choosing.carried.Goals as goal

pub returns-clause-once : goal.returns-clause-once
returns-clause-once c = each_once (λ v. v.items) c.continued.result c.deref.result.now c.deref-2.result.now c.continued.ensures.answer

pub returns-clause-below : goal.returns-clause-below
returns-clause-below c = each_below (λ v. v.items) c.continued.result c.deref.result.now c.deref-2.result.now (range_uses (tree_of c.args.old.now)) (c.deref-2.ensures.value ∙ c.in_ok-old.ensures) c.continued.ensures.answer
