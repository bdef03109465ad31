use Rattle.std.proofs.Common.{ap, ◌∙◌}
use Rattle.pr_labels.specs.Names.{is_label_name}
use Rattle.pr_engine.specs.private.ByName.{labels_in}
use Rattle.pr_engine.proofs.Names.{new_name}
use Rattle.pr_engine.proofs.scrape.named.rename.Goals as goal

pub put-requires-clause-label : goal.put-requires-clause-label
put-requires-clause-label c = record {
  name = ap is_label_name c.in_ok-free.ensures ∙ new_name c.args.target.now (labels_in c.args.named.now.entries) c.args.pair.now.name c.requires.label.name;
  value = c.requires.label.value;
}
