use Rattle.std.proofs.Common.{◌≡◌, true, sym, ap, ◌∙◌}
use Rattle.std.specs.Ordering.{is_lt}
use Rattle.pr_labels.specs.Order.{labels_cmp}
use Rattle.pr_labels.proofs.Behind.{below_last, less_of}
use Rattle.pr_labels.proofs.ordered.places.is_above.Goals as goal

pub returns-in-Some : goal.returns-in-Some
returns-in-Some g c = λ t r.
    let last = c.in-Some.last.now in
    let test : is_lt (labels_cmp last.labels c.args.labels.now) ≡ true = ap is_lt (sym c.cmp.ensures) ∙ sym c.is_lt.ensures ∙ t in
    below_last c.args.labels.now c.args.items.now last (sym c.in-Some.ensures.value) (less_of (labels_cmp last.labels c.args.labels.now) test) r
