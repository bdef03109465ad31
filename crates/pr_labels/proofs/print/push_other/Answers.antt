use Rattle.pr_labels.proofs.Listing.{skipped, written}
use Rattle.pr_labels.proofs.print.push_other.Goals as goal

pub returns-then-is_metric_pair-clause-ok : goal.returns-then-is_metric_pair-clause-ok
returns-then-is_metric_pair-clause-ok c = λ ps. skipped c.args.started c.is_metric_pair.result c.args.pair.now ps c.args.out.now.items c.is_metric_pair.ensures c.if-is_metric_pair.true

pub returns-clause-ok : goal.returns-clause-ok
returns-clause-ok c = λ ps. written c.args.started c.is_metric_pair.result c.args.pair.now ps c.args.out.now.items c.push_separator.new.out.items c.push_pair.new.out.items c.is_metric_pair.ensures c.if-is_metric_pair.false
    c.in_ok-push_separator.ensures.ok c.in_ok-push_pair.ensures.ok
