-- What happened to a rule since its start, as a list.
use Rattle.std.specs.Prelude.{ℕ, List, [], ◌∷◌, reverse}
use Rattle.spec_history.specs.pr_labels.declared.pair.Pair.{Pair}
use Rattle.spec_alerts.specs.declared.found.RuleElement.{RuleElement}
use Rattle.spec_alerts.specs.declared.restored.Restored.{Restored}

-- What an evaluation came to: these elements, or a fault. Of the faults only this one changes what
-- the rule remembers: it has more alerts than the limit of its group.
pub data EvaluationOutcome : Type 0 where
  came_to : List RuleElement → EvaluationOutcome
  exceeded : EvaluationOutcome
  failed : EvaluationOutcome

-- An evaluation: its time, how long an alert has to be active before it fires and how long it is
-- kept firing after it went missing, as the rule says by then, what the rule came to, and the label
-- sets that it wrote.
pub record Evaluation : Type 0 where
  pub time : ℕ
  pub hold : ℕ
  pub keep : ℕ
  pub outcome : EvaluationOutcome
  pub wrote : List (List Pair)

-- An entry of a lineage: the rule was evaluated, or these alerts were moved to these active times.
pub data Occurrence : Type 0 where
  seen : Evaluation → Occurrence
  moved : List Restored → Occurrence

-- what the rule wrote in its last evaluation without a fault, by that of the last one and what it
-- had written before
abbrev pub wrote_by : EvaluationOutcome → List (List Pair) → List (List Pair) → List (List Pair)
wrote_by (came_to found) wrote before = wrote
wrote_by exceeded wrote before = before
wrote_by failed wrote before = before

-- the same of a lineage of which the newest entry stands first
abbrev pub previous_from : List Occurrence → List (List Pair)
previous_from [] = []
previous_from (seen e ∷ earlier) = wrote_by e.outcome e.wrote (previous_from earlier)
previous_from (moved alerts ∷ earlier) = previous_from earlier

abbrev pub previous : List Occurrence → List (List Pair)
previous lineage = previous_from (reverse lineage)

-- What counts for the alerts: the entries after the last evaluation that exceeded the limit, without
-- those that failed. The newest stands first.
abbrev pub counted_by : EvaluationOutcome → Occurrence → List Occurrence → List Occurrence
counted_by (came_to found) step earlier = step ∷ earlier
counted_by exceeded step earlier = []
counted_by failed step earlier = earlier

abbrev pub counted_from : List Occurrence → List Occurrence
counted_from [] = []
counted_from (seen e ∷ earlier) = counted_by e.outcome (seen e) (counted_from earlier)
counted_from (moved alerts ∷ earlier) = moved alerts ∷ counted_from earlier

abbrev pub counted : List Occurrence → List Occurrence
counted lineage = counted_from (reverse lineage)
