use Rattle.std.proofs.Common.{not, rules, ◌∙◌}
use Rattle.pr_head.specs.spec_history.Lookback.{is_after}
use Rattle.pr_slide.proofs.Folded.{dropped_is}
use Rattle.pr_slide.proofs.kept.drop_counted.Goals as goal

pub returns-clause-items : goal.returns-clause-items
returns-clause-items g c = c.drop_while.ensures.items (λ s. not (is_after c.args.time s.time)) (record { gives = λ x b k. search rules }) ∙ dropped_is c.args.time c.args.window.now.items
