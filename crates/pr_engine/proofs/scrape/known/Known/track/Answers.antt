use Rattle.std.proofs.Common.{ap, fold, [], ◌∙◌}
use Rattle.pr_labels.specs.Rising.{with_labels}
use Rattle.pr_engine.proofs.Tracking.{puts_no_markers}
use Rattle.pr_engine.proofs.scrape.known.Known.track.Goals as goal

pub returns-then-has_kept-clause-puts : goal.returns-then-has_kept-clause-puts
returns-then-has_kept-clause-puts c = λ history h.
    puts_no_markers c.args.head.now c.args.rows.now.items history c.args.now c.args.self.now (fold with_labels [] c.args.kept.items) h
    (c.has_kept.ensures c.if-has_kept.true ∙ ap (fold with_labels []) c.deref.ensures.value)
