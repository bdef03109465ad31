use Rattle.std.proofs.Common.{List, ℕ, length, ap, sym, ◌∙◌}
use Rattle.pr_eval.proofs.SubquerySteps.{counted}
use Rattle.pr_eval.proofs.range_calls.times.SubqueryTimes.count.Goals as goal

pub returns : goal.returns
returns c = sym (counted c.self.inside.step c.self.inside.first c.self.inside.count) ∙ ap (λ (l : List ℕ). length l) c.self.view_is
