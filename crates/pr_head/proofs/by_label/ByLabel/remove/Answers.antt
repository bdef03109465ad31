use Rattle.std.proofs.Common.{ap, ◌∙◌}
use Rattle.std.specs.BTreeMap.{is_at}
use Rattle.std.specs.Map.{lookup, remove_entry, set_value}
use Rattle.pr_labels.specs.Order.{labels_cmp, pair_eq}
use Rattle.pr_head.proofs.Indexing.{written}
use Rattle.pr_head.proofs.by_label.ByLabel.remove.Goals as goal

pub returns : goal.returns
returns c = λ other.
    let w = c.remove.new.self in
    written (remove_entry (is_at (labels_cmp c.args.labels.now))) c.args.self.now (c.get_mut.follows.lender w).entries c.args.label.now other c.in-Some.listing.now w
    (c.in-Some.ensures.value ∙ ap (lookup (pair_eq c.args.label.now)) c.self.view_is) ((c.get_mut.follows.holds w).0 ∙ ap (λ es. set_value (pair_eq c.args.label.now) es w) c.self.view_is) c.remove.ensures
