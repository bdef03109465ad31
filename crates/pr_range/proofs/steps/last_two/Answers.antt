use Rattle.std.proofs.Common.{◌∙◌}
use Rattle.pr_range.proofs.Neighbours.{two_first, two_last}
use Rattle.pr_range.proofs.steps.last_two.Goals as goal

pub returns-in-len2-up-clause-before : goal.returns-in-len2-up-clause-before
returns-in-len2-up-clause-before c = c.before-item.is ∙ two_first c.args.first.now c.args.rest.now c.before-item.result c.in-len2-up.len_at_least

pub returns-in-len2-up-clause-last : goal.returns-in-len2-up-clause-last
returns-in-len2-up-clause-last c = c.last-item.is ∙ two_last c.args.first.now c.args.rest.now c.last-item.result c.in-len2-up.len_at_least
