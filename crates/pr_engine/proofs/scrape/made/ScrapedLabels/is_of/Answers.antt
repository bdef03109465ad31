use Rattle.std.proofs.Common.{sym, ◌∙◌}
use Rattle.pr_labels.proofs.LabelOrder.{labels_decide}
use Rattle.pr_engine.proofs.scrape.made.ScrapedLabels.is_of.Goals as goal

pub returns : goal.returns
returns c = λ h. sym c.self.view_is ∙ (labels_decide c.self.inside.target c.args.target.now).0 (sym c.eq.ensures ∙ h)
