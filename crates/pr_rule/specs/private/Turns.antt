-- Which of two lists goes on first, when they are merged.
use Rattle.std.specs.Prelude.{ℕ, ◌+◌, ◌<◌, List, [], ◌∷◌}
use Rattle.std.specs.declared.cmp.Ordering.{Ordering}
use Rattle.std.specs.declared.cmp.Ordering.TheVariants.{Less, Equal, Greater}
use Rattle.pr_labels.specs.Order.{labels_cmp}
use Rattle.spec_rules.specs.spec_alerts.declared.found.RuleElement.{RuleElement}
use Rattle.spec_rules.specs.spec_alerts.declared.record.Record.{Record}

-- which stands first: a record, an element, or both with the same labels
abbrev pub turn : List Record → List RuleElement → Ordering
turn [] [] = Equal
turn [] (f ∷ fs) = Greater
turn (r ∷ rs) [] = Less
turn (r ∷ rs) (f ∷ fs) = labels_cmp r.labels f.labels

-- of which of two lists there is a first one, by which stands first and how many there are
abbrev pub HasTurn : Ordering → ℕ → ℕ → Type 0
HasTurn Less n k = 0 < n
HasTurn Equal n k = 0 < n + k → (0 < n) × (0 < k)
HasTurn Greater n k = 0 < k
