-- What is kept of the elements so far.
use Rattle.std.specs.Prelude.{◌≡◌, List, map, None}
use Rattle.std.specs.Map.{keys_of}
use Rattle.pr_labels.specs.declared.item.Item.{Item}
use Rattle.pr_eval.specs.spec_vectors.Vectors.{in_label_order}
use Rattle.pr_eval.specs.spec_vectors.Functions.{least_twice}
use Rattle.spec_rules.specs.spec_alerts.declared.found.RuleElement.{RuleElement}
use Rattle.spec_rules.specs.Results.{in_found_order, sets_in}
use Rattle.pr_labels.specs.private.Entries.{items_of}
use Rattle.pr_rule.specs.declared.rule_result.rows.ElementRest.{ElementRest}
use Rattle.pr_rule.specs.declared.rule_result.rows.DistinctElements.{DistinctElements}

-- the labels of an item with what it has besides them
abbrev pub found_in : Item ElementRest → RuleElement
found_in i = record { labels = i.labels; notes = i.value.notes; value = i.value.value }

-- Each label set that came has its place, the least of those that came again is known, and where
-- none did so, all elements are there.
pub record AreRows (front : List RuleElement) (rows : DistinctElements) : Type 0 where
  pub known : keys_of rows.founds ≡ in_label_order (sets_in front)
  pub again : rows.again ≡ least_twice (sets_in front)
  pub listed : rows.again ≡ None → map found_in (items_of rows.founds) ≡ in_found_order front
