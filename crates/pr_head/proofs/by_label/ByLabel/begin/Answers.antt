use Rattle.std.proofs.Common.{cond, ap, ◌∙◌, Some}
use Rattle.std.specs.Map.{lookup}
use Rattle.std.specs.BTreeMap.{insert_entry}
use Rattle.pr_labels.specs.Order.{labels_cmp, pair_eq}
use Rattle.pr_head.proofs.Indexing.{begun_under}
use Rattle.pr_head.proofs.by_label.ByLabel.begin.Goals as goal

pub returns-clause-ok : goal.returns-clause-ok
returns-clause-ok c = λ other.
    let label = c.args.label.now in
    let listing = c.insert.new.self in
    begun_under c.args.self.now c.insert-2.new.self.entries label other c.args.labels c.args.number listing c.requires
    (c.in_ok-insert.ensures.ok ∙ ap (λ es. insert_entry labels_cmp es c.args.labels c.args.number) c.new-listing.ensures)
    (c.in_ok-insert-2.ensures.updates.0 other
    ∙ ap (λ k. cond (pair_eq k other) (Some listing) (lookup (pair_eq other) c.self.inside.listings.entries)) c.in_ok-copy.ensures
    ∙ ap (λ es. cond (pair_eq label other) (Some listing) (lookup (pair_eq other) es)) c.self.view_is)
