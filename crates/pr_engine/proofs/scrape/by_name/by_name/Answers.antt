use Rattle.pr_engine.specs.private.ByName.{labels_in}
use Rattle.pr_engine.proofs.ByName.{all_put}
use Rattle.pr_engine.proofs.scrape.by_name.by_name.Goals as goal

pub returns : goal.returns
returns c =
    all_put c.naming.rest.now (labels_in c.naming.named.entries) c.args.pairs.now c.in_default.ensures.cases c.requires c.naming.invariant.all
