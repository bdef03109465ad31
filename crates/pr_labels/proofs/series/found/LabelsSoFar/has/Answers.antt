use Rattle.std.proofs.Common.{ap, ◌∙◌}
use Rattle.pr_words.specs.Names.{knows}
use Rattle.pr_labels.proofs.SeriesKnownNames.{among_all, among_later}
use Rattle.pr_labels.proofs.series.found.LabelsSoFar.has.Goals as goal

pub returns-then-len-le-FEW : goal.returns-then-len-le-FEW
returns-then-len-le-FEW c = among_all c.args.name.now c.args.self.now.pairs.items c.deref.result.now c.is_named.result c.deref.ensures.value c.is_named.ensures

pub returns-else-is_named : goal.returns-else-is_named
returns-else-is_named c = among_later 16 c.args.self.now.later c.args.self.now.pairs.items c.deref-2.result.now c.args.name.now c.is_named-2.result c.contains.result
    c.deref-2.ensures.value c.is_named-2.ensures c.if-is_named.false (c.contains.ensures ∙ ap (knows c.args.self.now.later) c.as_bytes.ensures.value) c.args.self.now.known
