-- What is sent at an evaluation is sent of the records that stand for the lineage then.
use Rattle.std.specs.Prelude.{◌≡◌, ℕ, List, [], ◌∷◌, ◌++◌}
use Rattle.std.proofs.Common.{sym, ◌∙◌, ap}
use Rattle.std.proofs.lemmas.List.{reverse-append}
use Rattle.pr_labels.specs.declared.pair.Pair.{Pair}
use Rattle.spec_rules.specs.spec_alerts.declared.found.RuleElement.{RuleElement}
use Rattle.spec_rules.specs.spec_alerts.declared.record.Record.{Record}
use Rattle.spec_rules.specs.spec_alerts.Lineage.{Occurrence, came_to}
use Rattle.spec_rules.specs.spec_alerts.Records.{evaluation, sendings, sendings_at, sendings_from, unsent_records}
use Rattle.pr_rule.specs.private.AlertStanding.{StandsUnsent}
use Rattle.pr_rule.proofs.Whole.{stands_unsent}

pub sent_of_records : (lineage : List Occurrence) (rs : List Record) (fs : List RuleElement) (interval now hold keep : ℕ) (wrote : List (List Pair))
    → StandsUnsent rs (lineage ++ evaluation now hold keep (came_to fs) wrote ∷ [])
    → sendings interval (lineage ++ evaluation now hold keep (came_to fs) wrote ∷ []) ≡ sendings_at interval now rs
sent_of_records lineage rs fs interval now hold keep wrote s =
    let after : List Occurrence = lineage ++ evaluation now hold keep (came_to fs) wrote ∷ [] in
    ap (λ steps. sendings_from interval steps (unsent_records after)) (reverse-append lineage (evaluation now hold keep (came_to fs) wrote ∷ []))
    ∙ ap (sendings_at interval now) (sym (stands_unsent rs after s))
