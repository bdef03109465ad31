use Rattle.std.proofs.Common.{◌≡◌, List, IfOk, subst}
use Rattle.pr_labels.specs.declared.pair.Pair.{Pair}
use Rattle.pr_engine.specs.private.ByName.{labels_in}
use Rattle.pr_engine.proofs.ByName.{made_faultless, made_same}
use Rattle.pr_engine.proofs.scrape.by_name.labels_of.Goals as goal

pub from_distinct-requires : goal.from_distinct-requires
from_distinct-requires c = made_faultless c.in_ok-pairs_of.field-0.items (labels_in c.args.named.entries) c.in_ok-pairs_of.ensures c.requires

pub returns : goal.returns
returns c =
    subst (λ (ls : List Pair). IfOk c.from_distinct.result (λ l. l ≡ ls))
    (made_same c.in_ok-pairs_of.field-0.items (labels_in c.args.named.entries) c.in_ok-pairs_of.ensures c.requires)
    c.from_distinct.ensures
