use Rattle.std.proofs.Common.{rules, ◌≡◌, ◌∙◌, sym, subst, None, Some}
use Rattle.std.specs.BTreeMap.{ContainsKey, get, get_key}
use Rattle.std.specs.BTreeMap.Entry.{MatchEntry, entry_key}
use Rattle.pr_labels.specs.Order.{labels_cmp}
use Rattle.pr_labels.proofs.LabelOrder.{tied}
use Rattle.pr_labels.proofs.ordered.places.place.Goals as goal

pub returns-in_ok-copy-in-Occupied-clause-put : goal.returns-in_ok-copy-in-Occupied-clause-put
returns-in_ok-copy-in-Occupied-clause-put g c =
    let key = entry_key c.in_ok-entry.field-0 in
    let map = c.args.placed.now in
    let labels = c.args.labels in (
      c.in_ok-copy-in-Occupied.ensures ∙ c.key.ensures ∙ (λ i. entry_key (sym c.in-Occupied.is i)) ∙ sym (tied labels key c.in_ok-entry.ensures.same_key),
      ((subst (λ e. MatchEntry e (ContainsKey labels_cmp map labels × (get_key labels_cmp map labels ≡ Some key)) (get labels_cmp map labels ≡ None)) c.in-Occupied.is c.in_ok-entry.ensures.found).0, search rules),
    )
