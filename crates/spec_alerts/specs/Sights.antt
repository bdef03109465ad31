-- What a lineage says of one label set.
use Rattle.std.specs.Prelude.{ℕ, List, [], ◌∷◌, find, map, fold, reverse, Option, None}
use Rattle.std.specs.Option.{option_map, option_or}
use Rattle.spec_history.specs.pr_labels.declared.pair.Pair.{Pair}
use Rattle.spec_history.specs.pr_labels.Order.{labels_eq}
use Rattle.spec_history.specs.pr_labels.Rising.{with_labels}
use Rattle.spec_alerts.specs.declared.found.RuleElement.{RuleElement}
use Rattle.spec_alerts.specs.declared.restored.Restored.{Restored}
use Rattle.spec_alerts.specs.Lineage.{Evaluation, EvaluationOutcome, came_to, exceeded, failed, Occurrence, seen, moved}

-- An evaluation, as far as a label set is concerned: the element with these labels, where there is
-- one, and the active time that the alert was last moved to after this evaluation and before the
-- next.
pub record Sight : Type 0 where
  pub time : ℕ
  pub hold : ℕ
  pub keep : ℕ
  pub found : Option RuleElement
  pub moved : Option ℕ

-- the elements of an evaluation; where it has a fault there are none
abbrev pub elements : EvaluationOutcome → List RuleElement
elements (came_to found) = found
elements exceeded = []
elements failed = []

abbrev pub found_with : List Pair → List RuleElement → Option RuleElement
found_with labels found = find (λ f. labels_eq labels f.labels) found

-- the last active time that these alerts give the label set
abbrev pub moved_to : List Pair → List Restored → Option ℕ
moved_to labels alerts = option_map (λ a. a.active) (find (λ a. labels_eq labels a.labels) (reverse alerts))

-- The sights of a label set, the newest first. `later` is the active time to which it was moved
-- after all of these.
abbrev pub sights_from : List Pair → Option ℕ → List Occurrence → List Sight
sights_from labels later [] = []
sights_from labels later (seen e ∷ earlier) = (record {
  time = e.time;
  hold = e.hold;
  keep = e.keep;
  found = found_with labels (elements e.outcome);
  moved = later;
}) ∷ sights_from labels None earlier
sights_from labels later (moved alerts ∷ earlier) = sights_from labels (option_or later (moved_to labels alerts)) earlier

abbrev pub sights : List Pair → List Occurrence → List Sight
sights labels steps = sights_from labels None steps

-- the label sets that were found, in label order, each once
abbrev pub sets_found : List Occurrence → List (List Pair)
sets_found [] = []
sets_found (seen e ∷ earlier) = fold with_labels (sets_found earlier) (map (λ f. f.labels) (elements e.outcome))
sets_found (moved alerts ∷ earlier) = sets_found earlier
