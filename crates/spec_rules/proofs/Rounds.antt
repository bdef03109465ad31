-- What the evaluation of all groups at a time puts into the history.
use Rattle.std.proofs.Common.{◌≡◌, ℕ, List, [], ◌∷◌, ◌++◌, map, flat_map, fold, refl, sym, ap, ◌∙◌, append_assoc, append-nil}
use Rattle.std.specs.Prelude.{◌==◌}
use Rattle.std.proofs.lemmas.List.{map-append}
use Rattle.spec_alerts.specs.spec_history.declared.entry.Entry.{Entry}
use Rattle.spec_alerts.specs.spec_history.Admission.{put_all}
use Rattle.spec_alerts.proofs.HistoryPutting.{puts_admitted}
use Rattle.spec_rules.specs.Definitions.{Group as Definition}
use Rattle.spec_rules.specs.declared.report.GroupReport.{GroupReport}
use Rattle.spec_rules.specs.Evaluations.{group_step}
use Rattle.spec_rules.specs.Groups.{Group}
use Rattle.spec_rules.specs.private.Laws.{definition_of, Round, begun_round, one_group, round}
use Rattle.spec_rules.specs.Settings.{Settings}
use Rattle.spec_rules.proofs.Keeping.{definition_stays}
use Rattle.spec_rules.proofs.Putting.{evaluation_admits}

abbrev all_admitted : List GroupReport → List Entry
all_admitted reports = flat_map (λ r. r.admitted) reports

joined : (reports : List GroupReport) (r : GroupReport) → all_admitted (reports ++ r ∷ []) ≡ all_admitted reports ++ r.admitted
joined [] r = append-nil r.admitted
joined (first ∷ reports) r = ap (λ (l : List Entry). first.admitted ++ l) (joined reports r) ∙ sym (append_assoc first.admitted (all_admitted reports) r.admitted)

one_admits : (s : Settings) (g : Group) (history : List Entry) (now : ℕ) → put_all history (group_step s g history now).entries ≡ history ++ (group_step s g history now).report.admitted
one_admits s g history now =
    puts_admitted history (group_step s g history now).entries ∙ ap (λ (l : List Entry). history ++ l) (sym (evaluation_admits s g history now))

groups_admit : (s : Settings) (before : List Entry) (now : ℕ) (groups : List Group) (r : Round) → r.history ≡ before ++ all_admitted r.reports
    → (fold (one_group s now) r groups).history ≡ before ++ all_admitted (fold (one_group s now) r groups).reports
groups_admit s before now [] r h = h
groups_admit s before now (g ∷ groups) r h =
    let step = group_step s g r.history now in
    groups_admit s before now groups (one_group s now r g)
    (one_admits s g r.history now ∙ ap (λ (l : List Entry). l ++ step.report.admitted) h ∙ append_assoc before (all_admitted r.reports) step.report.admitted
    ∙ ap (λ (l : List Entry). before ++ l) (sym (joined r.reports step.report)))

pub round_admits : (s : Settings) (groups : List Group) (history : List Entry) (now : ℕ)
    → (round s groups history now).history ≡ history ++ flat_map (λ r. r.admitted) (round s groups history now).reports
unfolding round
round_admits s groups history now = groups_admit s history now groups (begun_round history) (sym (append-nil history))

abbrev definitions : List Group → List Definition
definitions groups = map definition_of groups

groups_stay : (s : Settings) (now : ℕ) (groups : List Group) (r : Round) → definitions (fold (one_group s now) r groups).groups ≡ definitions r.groups ++ definitions groups
groups_stay s now [] r = sym (append-nil (definitions r.groups))
groups_stay s now (g ∷ groups) r =
    let step = group_step s g r.history now in
    groups_stay s now groups (one_group s now r g)
    ∙ ap (λ (l : List Definition). l ++ definitions groups) (map-append definition_of r.groups (step.group ∷ []))
    ∙ append_assoc (definitions r.groups) (definition_of step.group ∷ []) (definitions groups)
    ∙ ap (λ (d : Definition). definitions r.groups ++ d ∷ definitions groups) (definition_stays s g r.history now)

pub round_keeps : (s : Settings) (groups : List Group) (history : List Entry) (now : ℕ) → definitions (round s groups history now).groups ≡ definitions groups
unfolding round
round_keeps s groups history now = groups_stay s now groups (begun_round history)
