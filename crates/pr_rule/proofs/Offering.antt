-- What a rule comes to before anything is put.
use Rattle.std.proofs.Common.{◌≡◌, ℕ, Bool, true, false, List, [], ◌∷◌, ◌++◌, map, Option, Some, None, Result, Ok, Err, refl, sym, ap, ◌∙◌, subst}
use Rattle.std.specs.Prelude.{nat_lt, unwrap_or}
use Rattle.pr_labels.specs.declared.pair.Pair.{Pair}
use Rattle.spec_rules.specs.spec_history.declared.entry.Entry.{Entry}
use Rattle.spec_rules.specs.spec_meaning.declared.fault.Fault.{Fault}
use Rattle.spec_rules.specs.spec_meaning.declared.value.Value.{Value}
use Rattle.spec_rules.specs.spec_meaning.Answers.{go_on}
use Rattle.spec_rules.specs.spec_meaning.Meaning.{meaning}
use Rattle.pr_eval.specs.spec_vectors.Functions.{least_twice}
use Rattle.spec_rules.specs.pr_tmpl.declared.template.External.{External}
use Rattle.spec_rules.specs.spec_alerts.declared.found.RuleElement.{RuleElement}
use Rattle.spec_rules.specs.spec_alerts.declared.record.Record.{Record}
use Rattle.spec_rules.specs.spec_alerts.Lineage.{EvaluationOutcome, Occurrence, came_to, exceeded, failed}
use Rattle.spec_rules.specs.spec_alerts.Records.{evaluation, exceeding, records, records_after, sendings, sendings_at}
use Rattle.pr_rule.specs.declared.alert.fault.AlertFault.{AlertFault}
use Rattle.pr_rule.specs.declared.alert.fault.AlertFault.TheVariants as alert
use Rattle.pr_rule.specs.private.AlertStanding.{Exceeds, StandsFor, StandsUnsent, marked_if}
use Rattle.spec_rules.specs.Definitions.{Rule}
use Rattle.spec_rules.specs.declared.fault.RuleFailure.{RuleFailure}
use Rattle.spec_rules.specs.declared.fault.RuleFault.TheVariants.{Eval, SameAfterRule, LimitExceeded}
use Rattle.spec_rules.specs.Evaluations.{evaluated, fault_outcome, recorded, rule_outcome, rule_samples_by, sent_by, within_alerts}
use Rattle.spec_rules.specs.Groups.{Group, RuleState, interval_of}
use Rattle.spec_rules.specs.Results.{failed_by, failure, found_of, in_found_order, rule_result, rule_result_by, sets_in, unless_beyond, unless_twice, value_elements, within_limit, without_place}
use Rattle.spec_rules.specs.Settings.{Settings}
use Rattle.pr_rule.specs.declared.rule_result.error.RuleError.TheVariants.{Failed}
use Rattle.pr_rule.specs.declared.offered.Offered.{Offered}
use Rattle.pr_rule.specs.private.Outcomes.{HasFailed, Offers}

-- The laws of records, which the code calls upon.

abbrev pub SentLaw : Type 0
SentLaw = (lineage : List Occurrence) (rs : List Record) (fs : List RuleElement) (interval now hold keep : ℕ) (wrote : List (List Pair)) → StandsUnsent rs (lineage ++ evaluation now hold keep (came_to fs) wrote ∷ [])
    → sendings interval (lineage ++ evaluation now hold keep (came_to fs) wrote ∷ []) ≡ sendings_at interval now rs

abbrev pub MarkedLaw : Type 0
MarkedLaw = (lineage : List Occurrence) (rs : List Record) (fs : List RuleElement) (now hold keep : ℕ) (wrote : List (List Pair)) → StandsUnsent rs (lineage ++ evaluation now hold keep (came_to fs) wrote ∷ [])
    → StandsFor (map (marked_if now) rs) (lineage ++ evaluation now hold keep (came_to fs) wrote ∷ [])

abbrev pub AloneLaw : Type 0
AloneLaw = (rs : List Record) (lineage : List Occurrence) → StandsFor rs lineage → rs ≡ records lineage

abbrev pub NoneLaw : Type 0
NoneLaw = (lineage : List Occurrence) (now hold keep : ℕ) (wrote : List (List Pair)) → StandsFor [] (lineage ++ evaluation now hold keep exceeded wrote ∷ [])

abbrev pub FaultLaw : Type 0
FaultLaw = (lineage : List Occurrence) (rs : List Record) (now hold keep : ℕ) (wrote : List (List Pair)) → StandsFor rs lineage → StandsFor rs (lineage ++ evaluation now hold keep failed wrote ∷ [])

abbrev Outcomes : Type 0
Outcomes = Result (List RuleElement) RuleFailure

-- What the outcome is

outcome_fault : (b : Bool) (limit : ℕ) (r : RuleState) (now : ℕ) (f : RuleFailure) → within_alerts b limit r now (Err f) ≡ Err f
outcome_fault false limit r now f = refl
outcome_fault true limit r now f = refl

-- the fault of the expression, or of what the rule makes of its elements
fault_first : (s : Settings) (g : Group) (r : RuleState) (history : List Entry) (now : ℕ) (f : RuleFailure) → rule_result s g.limit r.rule history now ≡ Err f → rule_outcome s g r history now ≡ Err f
unfolding rule_outcome
fault_first s g r history now f e = ap (λ (o : Outcomes). within_alerts r.rule.alert g.limit r now o) e ∙ outcome_fault r.rule.alert g.limit r now f

records_come : (s : Settings) (g : Group) (r : RuleState) (history : List Entry) (now : ℕ) (founds : List RuleElement) → r.rule.alert ≡ false
    → rule_result s g.limit r.rule history now ≡ Ok founds → rule_outcome s g r history now ≡ Ok founds
unfolding rule_outcome
records_come s g r history now founds records e =
    ap (λ (o : Outcomes). within_alerts r.rule.alert g.limit r now o) e ∙ ap (λ (b : Bool). within_alerts b g.limit r now (Ok founds)) records

alerts_come : (s : Settings) (g : Group) (r : RuleState) (history : List Entry) (now : ℕ) (founds : List RuleElement) (o : Option ℕ) → r.rule.alert ≡ true
    → rule_result s g.limit r.rule history now ≡ Ok founds → exceeding g.limit r.lineage now r.rule.hold r.rule.keep founds ≡ o
    → rule_outcome s g r history now ≡ without_place (unless_beyond g.limit o founds)
unfolding rule_outcome
alerts_come s g r history now founds o alerts e more =
    ap (λ (p : Outcomes). within_alerts r.rule.alert g.limit r now p) e ∙ ap (λ (b : Bool). within_alerts b g.limit r now (Ok founds)) alerts
    ∙ ap (λ (m : Option ℕ). without_place (unless_beyond g.limit m founds)) more

-- A rule that records

pub records_offered : (tells : Bool) (offered : Offered) (alerts : List Record) (s : Settings) (g : Group) (r : RuleState) (history : List Entry) (now : ℕ) (founds : List RuleElement) → r.rule.alert ≡ false
    → rule_result s g.limit r.rule history now ≡ Ok founds → offered.samples ≡ recorded founds → offered.sent ≡ []
    → Offers tells (rule_outcome s g r history now) alerts g r now (Ok offered)
records_offered tells offered alerts s g r history now founds records e samples sent = (
  founds,
  (
    records_come s g r history now founds records e,
    record {
      samples = samples ∙ ap (λ (b : Bool). rule_samples_by b (nat_lt 0 g.waits) founds (records_after r.lineage now r.rule.hold r.rule.keep founds)) (sym records);
      sent = λ told wrote. sent ∙ ap (λ (b : Bool). sent_by b (interval_of g) (evaluated r now (came_to founds) wrote)) (sym records);
      records = λ wrote alerting. absurd (let z : true ≡ false = sym alerting ∙ records in cc);
    },
  ),
)

-- An alert

-- the entries of a lineage with these spans are the rule's
abbrev after : RuleState → ℕ → ℕ → ℕ → EvaluationOutcome → List (List Pair) → List Occurrence
after r now hold keep outcome wrote = r.lineage ++ evaluation now hold keep outcome wrote ∷ []

pub alerts_offered : SentLaw → MarkedLaw → AloneLaw → (tells : Bool) (offered : Offered) (s : Settings) (g : Group) (r : RuleState) (history : List Entry) (now limit hold keep : ℕ) (every : Option ℕ) (waiting : Bool) (founds : List RuleElement) (before alerts : List Record)
    → limit ≡ g.limit → hold ≡ r.rule.hold → keep ≡ r.rule.keep → every ≡ g.interval → waiting ≡ nat_lt 0 g.waits → r.rule.alert ≡ true
    → rule_result s g.limit r.rule history now ≡ Ok founds → exceeding limit r.lineage now hold keep founds ≡ None
    → ((wrote : List (List Pair)) → StandsUnsent before (after r now hold keep (came_to founds) wrote))
    → alerts ≡ map (marked_if now) before → (tells ≡ true → offered.sent ≡ sendings_at (unwrap_or every 60000) now before) → offered.samples ≡ rule_samples_by true waiting founds alerts
    → Offers tells (rule_outcome s g r history now) alerts g r now (Ok offered)
alerts_offered sent_of_records marked_stand stands_alone tells offered s g r history now limit hold keep every waiting founds before alerts elimit ehold ekeep every_is waits alerting e within stands marks sends samples =
    let unsent : (wrote : List (List Pair)) → StandsUnsent before (evaluated r now (came_to founds) wrote) = λ wrote.
    subst (λ (l : List Occurrence). StandsUnsent before l) (λ i. after r now (ehold i) (ekeep i) (came_to founds) wrote) (stands wrote) in
    let sent : (wrote : List (List Pair)) → StandsFor alerts (evaluated r now (came_to founds) wrote) = λ wrote.
    subst (λ (rs : List Record). StandsFor rs (evaluated r now (came_to founds) wrote)) (sym marks) (marked_stand r.lineage before founds now r.rule.hold r.rule.keep wrote (unsent wrote)) in
    let whole : alerts ≡ records (evaluated r now (came_to founds) []) = stands_alone alerts (evaluated r now (came_to founds) []) (sent []) in (
      founds,
      (
        alerts_come s g r history now founds None alerting e (sym (λ i. exceeding (elimit i) r.lineage now (ehold i) (ekeep i) founds) ∙ within),
        record {
          samples = samples ∙ (λ i. rule_samples_by (sym alerting i) (waits i) founds (whole i));
          sent = λ told wrote. sends told ∙ (λ i. sendings_at (unwrap_or (every_is i) 60000) now before)
              ∙ sym (sent_of_records r.lineage before founds (interval_of g) now r.rule.hold r.rule.keep wrote (unsent wrote))
              ∙ ap (λ (b : Bool). sent_by b (interval_of g) (evaluated r now (came_to founds) wrote)) (sym alerting);
          records = λ wrote isalert. sent wrote;
        },
      ),
    )

-- more alerts than the limit
pub alerts_exceed : NoneLaw → (tells : Bool) (s : Settings) (g : Group) (r : RuleState) (history : List Entry) (now limit hold keep allowed have : ℕ) (fault : AlertFault) (failed_so : RuleFailure) (founds : List RuleElement) (alerts : List Record)
    → limit ≡ g.limit → hold ≡ r.rule.hold → keep ≡ r.rule.keep → r.rule.alert ≡ true → rule_result s g.limit r.rule history now ≡ Ok founds
    → fault ≡ alert.LimitExceeded allowed have → Exceeds fault limit (exceeding limit r.lineage now hold keep founds) alerts → failed_so ≡ failure 0 (LimitExceeded allowed have)
    → Offers tells (rule_outcome s g r history now) alerts g r now (Err (Failed failed_so))
alerts_exceed none_after tells s g r history now limit hold keep allowed have fault failed_so founds alerts elimit ehold ekeep alerting e is h failed_is =
    let k = subst (λ (x : AlertFault). Exceeds x limit (exceeding limit r.lineage now hold keep founds) alerts) is h in
    let same : allowed ≡ g.limit = k.0 ∙ elimit in
    let more : exceeding g.limit r.lineage now r.rule.hold r.rule.keep founds ≡ Some have = sym (λ i. exceeding (elimit i) r.lineage now (ehold i) (ekeep i) founds) ∙ k.1 in
    let none : alerts ≡ [] = k.2 in
    record {
      outcome = alerts_come s g r history now founds (Some have) alerting e more
          ∙ (λ i. Err (failure 0 (LimitExceeded (sym same i) have))) ∙ ap (λ (f : RuleFailure). Err f) (sym failed_is);
      records = λ isalert. subst (λ (rs : List Record). StandsFor rs (evaluated r now (fault_outcome failed_so.kind) [])) (sym none)
          (subst (λ (f : RuleFailure). StandsFor [] (evaluated r now (fault_outcome f.kind) [])) (sym failed_is) (none_after r.lineage now r.rule.hold r.rule.keep []));
    }

-- The fault of an alert is none of the limit

err_is : (x y : RuleFailure) → ◌≡◌ {A = Outcomes} (Err x) (Err y) → x ≡ y
err_is x y e = cc

ok_no_err : (founds : List RuleElement) (y : RuleFailure) → ◌≡◌ {A = Outcomes} (Ok founds) (Err y) → ⊥
ok_no_err founds y e = cc

failed_of : (x y : RuleFailure) → ◌≡◌ {A = Outcomes} (Err x) (Err y) → fault_outcome x.kind ≡ failed → fault_outcome y.kind ≡ failed
failed_of x y e h = ap (λ (f : RuleFailure). fault_outcome f.kind) (sym (err_is x y e)) ∙ h

apart_failed : (b : Bool) (o : Option (List Pair)) (limit : ℕ) (founds : List RuleElement) (f : RuleFailure) → b ≡ true
    → without_place (go_on (within_limit b limit) (unless_twice o founds)) ≡ Err f → fault_outcome f.kind ≡ failed
apart_failed true None limit founds f alerting e = absurd (ok_no_err (in_found_order founds) f e)
apart_failed false None limit founds f alerting e = absurd (let z : false ≡ true = alerting in cc)
apart_failed b (Some labels) limit founds f alerting e = failed_of (failure 0 (SameAfterRule labels)) f e refl

alert_failed : (external : External) (limit : ℕ) (rule : Rule) (meant : Result Value Fault) (f : RuleFailure) → rule.alert ≡ true
    → rule_result_by external limit rule (failed_by meant) ≡ Err f → fault_outcome f.kind ≡ failed
alert_failed external limit rule (Ok v) f alerting e =
    let founds = map (found_of external rule) (value_elements v) in
    apart_failed rule.alert (least_twice (sets_in founds)) limit founds f alerting e
alert_failed external limit rule (Err fault) f alerting e = failed_of (failure fault.place.start (Eval fault.kind)) f e refl

pub failed_first : FaultLaw → (s : Settings) (g : Group) (r : RuleState) (history : List Entry) (now : ℕ) (f : RuleFailure) (alerts : List Record)
    → rule_result s g.limit r.rule history now ≡ Err f → (r.rule.alert ≡ true → StandsFor alerts r.lineage) → HasFailed (rule_outcome s g r history now) alerts r now f
unfolding rule_result
failed_first failed_stands s g r history now f alerts e stands = record {
  outcome = fault_first s g r history now f e;
  records = λ alerting.
      let kind : fault_outcome f.kind ≡ failed = alert_failed s.external g.limit r.rule (meaning s.subquery_step history r.rule.expr now) f alerting e in
      subst (λ (o : EvaluationOutcome). StandsFor alerts (after r now r.rule.hold r.rule.keep o [])) (sym kind) (failed_stands r.lineage alerts now r.rule.hold r.rule.keep [] (stands alerting));
}
