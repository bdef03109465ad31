-- The records after an evaluation, of the records before it and what it found, both in label order.
use Rattle.std.specs.Prelude.{ℕ, List, [], ◌∷◌, ◌++◌, Option, Some, None}
use Rattle.std.specs.Option.{option_to_list}
use Rattle.std.specs.declared.cmp.Ordering.{Ordering}
use Rattle.std.specs.declared.cmp.Ordering.TheVariants.{Less, Equal, Greater}
use Rattle.pr_labels.specs.Order.{labels_cmp}
use Rattle.spec_rules.specs.spec_alerts.declared.found.RuleElement.{RuleElement}
use Rattle.spec_rules.specs.spec_alerts.declared.record.Record.{Record}
use Rattle.pr_rule.specs.private.Going.{found_record, missing_record}

-- an evaluation: when it is, how long an alert is held before it fires, and how long it is kept
pub record Moment : Type 0 where
  pub now : ℕ
  pub hold : ℕ
  pub keep : ℕ

abbrev pub moment : ℕ → ℕ → ℕ → Moment
moment now hold keep = record { now = now; hold = hold; keep = keep }

abbrev pub missing_at : Moment → Record → List Record
missing_at m r = option_to_list (missing_record r m.now m.keep)

abbrev pub found_at : Moment → Option Record → RuleElement → Record
found_at m before f = found_record before f m.now m.hold

-- `low` is what becomes of the later records and all elements, `both` of the later ones of both, and
-- `high` of all records and the later elements
abbrev pub met : Moment → Ordering → Record → RuleElement → List Record → List Record → List Record → List Record
met m Less r f low both high = missing_at m r ++ low
met m Equal r f low both high = found_at m (Some r) f ∷ both
met m Greater r f low both high = found_at m None f ∷ high

-- one element and the elements after it, by what becomes of records and these
abbrev pub merged_with : Moment → RuleElement → (List Record → List Record) → List Record → List Record
merged_with m f later [] = found_at m None f ∷ later []
merged_with m f later (r ∷ rs) = met m (labels_cmp r.labels f.labels) r f (merged_with m f later rs) (later rs) (later (r ∷ rs))

abbrev pub all_missing : Moment → List Record → List Record
all_missing m [] = []
all_missing m (r ∷ rs) = missing_at m r ++ all_missing m rs

abbrev pub merged : Moment → List RuleElement → List Record → List Record
merged m [] rs = all_missing m rs
merged m (f ∷ fs) rs = merged_with m f (merged m fs) rs
