-- The orders of what is expected.
use Rattle.std.proofs.lemmas.List.Sorted.{ranks_by}
use Rattle.std.specs.Cmp.{IsStrictWeakOrder, IsTotalOrder, then_total, on_total}
use Rattle.std.specs.Ordering.{then_cmp, on}
use Rattle.pr_num.specs.declared.value.Num.{Num}
use Rattle.pr_ast.specs.pr_labels.declared.item.Item.{Item}
use Rattle.pr_ast.specs.pr_labels.Order.{labels_cmp}
use Rattle.pr_ast.proofs.LabelsLabelOrder.{labels_total}
use Rattle.pr_rulefile.specs.spec_alerts.declared.found.RuleElement.{RuleElement}
use Rattle.pr_testfile.specs.Samples.{is_item_before}
use Rattle.pr_testfile.specs.Alerts.{is_found_before}

pub items_weak : IsStrictWeakOrder is_item_before
items_weak = ranks_by labels_total (λ (s : Item Num). s.labels)

founds_total : IsTotalOrder (then_cmp (on (λ (f : RuleElement). f.labels) labels_cmp) (on (λ (f : RuleElement). f.notes) labels_cmp))
founds_total = then_total (on_total (λ (f : RuleElement). f.labels) labels_total) (on_total (λ (f : RuleElement). f.notes) labels_total)

pub founds_weak : IsStrictWeakOrder is_found_before
founds_weak = ranks_by founds_total (λ (f : RuleElement). f)
