-- The step of a rule, from what it comes to and what becomes of that.
use Rattle.std.proofs.Common.{◌≡◌, ℕ, Bool, true, List, [], ◌∷◌, ◌++◌, Result, Ok, Err, OnOk, sym, ap, ◌∙◌, subst, reverse}
use Rattle.std.proofs.lemmas.List.{reverse-append}
use Rattle.pr_ast.specs.pr_num.declared.value.Num.{Num}
use Rattle.pr_labels.specs.declared.item.Item.{Item}
use Rattle.pr_labels.specs.declared.pair.Pair.{Pair}
use Rattle.spec_rules.specs.spec_history.declared.entry.Entry.{Entry}
use Rattle.spec_rules.specs.spec_history.Admission.{put_all}
use Rattle.pr_eval.specs.pr_head.private.Holds.{Holds}
use Rattle.spec_rules.specs.spec_history.Puts.{admitted, label_sets_of, markers}
use Rattle.spec_rules.specs.spec_alerts.declared.found.RuleElement.{RuleElement}
use Rattle.spec_rules.specs.spec_alerts.declared.record.Record.{Record}
use Rattle.spec_rules.specs.spec_alerts.declared.sending.Sending.{Sending}
use Rattle.spec_rules.specs.spec_alerts.Lineage.{Occurrence, came_to, previous, previous_from}
use Rattle.spec_rules.specs.Definitions.{Rule}
use Rattle.spec_rules.specs.declared.fault.RuleFailure.{RuleFailure}
use Rattle.spec_rules.specs.declared.report.Put.{Put}
use Rattle.spec_rules.specs.declared.report.RuleOutcome.TheVariants.{Fine}
use Rattle.spec_rules.specs.declared.report.RuleReport.{RuleReport}
use Rattle.spec_rules.specs.Evaluations.{RuleStep, evaluated, failed_step, fine_step, rule_outcome, rule_samples, rule_step, rule_step_by, sent_by, with_lineage}
use Rattle.spec_rules.specs.Groups.{Group, RuleState, interval_of}
use Rattle.spec_rules.specs.Settings.{Settings}
use Rattle.spec_rules.proofs.Faults.{fault_keeps}
use Rattle.pr_eval.specs.pr_head.private.Intake.{PutsIf, Series}
use Rattle.pr_eval.proofs.HeadIntakeIntake.{puts_if_none, puts_if_then}
use Rattle.pr_rule.specs.declared.rule_result.error.RuleError.{RuleError}
use Rattle.pr_rule.specs.declared.rule_result.error.RuleError.TheVariants.{Failed}
use Rattle.pr_rule.specs.declared.rule_result.templates.RuleTemplates.{RuleTemplates}
use Rattle.pr_rule.specs.declared.offered.Offered.{Offered}
use Rattle.pr_rule.specs.private.Outcomes.{HasFailed, IsOffered, Offers}
use Rattle.pr_rule.specs.private.Standing.{HasStepped, StandsForRule}
use Rattle.pr_rule.specs.private.Written.{HasWritten, Writes, entries_of, gone_of, told_of, wrote_of}

newest : (lineage : List Occurrence) (step : Occurrence) → previous (lineage ++ step ∷ []) ≡ previous_from (step ∷ reverse lineage)
newest lineage step = ap previous_from (reverse-append lineage (step ∷ []))

-- What is put

pub written_so : (tells : Bool) (a m b : Series) (r q s : List Entry) (empty told telling : List Put) (none wrote new old last after : List (List Pair)) (stale marked : List (List Pair)) (history : List Entry) (now : ℕ) (items : List (Item Num))
    → empty ≡ [] → none ≡ [] → Writes tells a m r q empty told none wrote history now items → new ≡ wrote → old ≡ last
    → PutsIf tells m b q s (put_all history (entries_of now items)) (markers now old new)
    → (tells ≡ true → marked ≡ label_sets_of (admitted (put_all history (entries_of now items)) (markers now old new)))
    → telling ≡ told → stale ≡ marked → after ≡ wrote → HasWritten tells a b r s last after telling stale history now items
written_so tells a m b r q s empty told telling none wrote new old last after stale marked history now items noputs nosets w isnew isold p gone tellings stales afters =
    let now_wrote : wrote ≡ wrote_of history now items = w.wrote ∙ ap (λ (l : List (List Pair)). l ++ wrote_of history now items) nosets in
    let same : markers now old new ≡ gone_of history now last items = λ i. markers now (isold i) ((isnew ∙ now_wrote) i) in
    let behind : List Entry = put_all history (entries_of now items) in
    record {
      puts = puts_if_then tells a m b r q s history (entries_of now items) (gone_of history now last items) w.puts (subst (λ (l : List Entry). PutsIf tells m b q s behind l) same p);
      told = λ read. tellings ∙ w.told read ∙ ap (λ (l : List Put). l ++ told_of history now items) noputs;
      marked = λ read. stales ∙ gone read ∙ ap (λ (l : List Entry). label_sets_of (admitted behind l)) same;
      wrote = afters ∙ now_wrote;
    }

-- What is told

stepped_fine : (tells : Bool) (a b : Series) (rows more : List Entry) (last wrote : List (List Pair)) (told : List Put) (stale : List (List Pair)) (sent : List Sending) (history : List Entry) (now : ℕ) (items : List (Item Num))
    → (g : Group) (r : RuleState) (founds : List RuleElement) → last ≡ previous r.lineage → HasWritten tells a b rows more last wrote told stale history now items
    → (tells ≡ true → (w : List (List Pair)) → sent ≡ sent_by r.rule.alert (interval_of g) (evaluated r now (came_to founds) w))
    → HasStepped tells a b rows more (record { outcome = Fine; samples = told; stale = stale; sent = sent }) history (fine_step g r now founds history items)
stepped_fine tells a b rows more last wrote told stale sent history now items g r founds before w sends =
    let marks : gone_of history now last items ≡ gone_of history now (previous r.lineage) items = ap (λ (l : List (List Pair)). gone_of history now l items) before in
    let stales : tells ≡ true → stale ≡ label_sets_of (admitted (put_all history (entries_of now items)) (gone_of history now (previous r.lineage) items)) =
    λ read. w.marked read ∙ ap (λ (l : List Entry). label_sets_of (admitted (put_all history (entries_of now items)) l)) marks in
    record {
      puts = subst (λ (l : List Entry). PutsIf tells a b rows more history (entries_of now items ++ l)) marks w.puts;
      report = λ read i. record { outcome = Fine; samples = w.told read i; stale = stales read i; sent = sends read (wrote_of history now items) i };
    }

pub stepped_so : (tells : Bool) (a b : Series) (rows more : List Entry) (last wrote : List (List Pair)) (told : List Put) (stale : List (List Pair)) (history : List Entry) (now : ℕ) (items : List (Item Num)) (offered : Offered) (alerts : List Record)
    → (g : Group) (r : RuleState) (founds : List RuleElement) → last ≡ previous r.lineage → items ≡ offered.samples → HasWritten tells a b rows more last wrote told stale history now items → IsOffered tells offered alerts g r now founds
    → HasStepped tells a b rows more (record { outcome = Fine; samples = told; stale = stale; sent = offered.sent }) history (fine_step g r now founds history (rule_samples g r now founds))
stepped_so tells a b rows more last wrote told stale history now items offered alerts g r founds before same w o =
    subst (λ (l : List (Item Num)). HasStepped tells a b rows more (record { outcome = Fine; samples = told; stale = stale; sent = offered.sent }) history (fine_step g r now founds history l))
    (same ∙ o.samples) (stepped_fine tells a b rows more last wrote told stale offered.sent history now items g r founds before w o.sent)

pub wrote_so : (tells : Bool) (a b : Series) (rows more : List Entry) (last wrote : List (List Pair)) (told : List Put) (stale : List (List Pair)) (history : List Entry) (now : ℕ) (items : List (Item Num)) (offered : Offered) (alerts : List Record)
    → (g : Group) (r : RuleState) (founds : List RuleElement) → items ≡ offered.samples → HasWritten tells a b rows more last wrote told stale history now items → IsOffered tells offered alerts g r now founds
    → wrote ≡ previous (fine_step g r now founds history (rule_samples g r now founds)).lineage
wrote_so tells a b rows more last wrote told stale history now items offered alerts g r founds same w o =
    w.wrote ∙ ap (wrote_of history now) (same ∙ o.samples) ∙ sym (newest r.lineage _)

-- The whole step

pub step_fine : (s : Settings) (g : Group) (r : RuleState) (history : List Entry) (now : ℕ) (founds : List RuleElement) → rule_outcome s g r history now ≡ Ok founds
    → rule_step s g r history now ≡ fine_step g r now founds history (rule_samples g r now founds)
unfolding rule_step
step_fine s g r history now founds e = ap (λ o. rule_step_by g r history now o) e

pub step_failed : (s : Settings) (g : Group) (r : RuleState) (history : List Entry) (now : ℕ) (f : RuleFailure) → rule_outcome s g r history now ≡ Err f
    → rule_step s g r history now ≡ failed_step r now f
unfolding rule_step
step_failed s g r history now f e = ap (λ o. rule_step_by g r history now o) e

-- after a step without a fault
stands_fine : (tells : Bool) (s : Settings) (g : Group) (r : RuleState) (history : List Entry) (now : ℕ) (founds : List RuleElement) (offered : Offered) (known : RuleTemplates) (before wrote : List (List Pair)) (old alerts : List Record) (definition : Rule)
    → StandsForRule known before old definition r → rule_outcome s g r history now ≡ Ok founds → IsOffered tells offered alerts g r now founds
    → wrote ≡ previous (fine_step g r now founds history (rule_samples g r now founds)).lineage
    → StandsForRule known wrote alerts definition (with_lineage r (rule_step s g r history now).lineage)
stands_fine tells s g r history now founds offered known before wrote old alerts definition h e o w =
    subst (λ (t : RuleStep). StandsForRule known wrote alerts definition (with_lineage r t.lineage)) (sym (step_fine s g r history now founds e))
    (record {
      rule = h.rule;
      templates = h.templates;
      previous = w;
      records = λ alerting. o.records _ alerting;
    })

pub stands_fine_if : {T E : Type 0} (result : Result T E) (tells : Bool) (s : Settings) (g : Group) (r : RuleState) (history : List Entry) (now : ℕ) (founds : List RuleElement) (offered : Offered) (known : RuleTemplates) (before wrote : List (List Pair)) (old alerts : List Record) (definition : Rule)
    → StandsForRule known before old definition r → rule_outcome s g r history now ≡ Ok founds → IsOffered tells offered alerts g r now founds
    → OnOk result (wrote ≡ previous (fine_step g r now founds history (rule_samples g r now founds)).lineage)
    → OnOk result (StandsForRule known wrote alerts definition (with_lineage r (rule_step s g r history now).lineage))
stands_fine_if (Ok v) tells s g r history now founds offered known before wrote old alerts definition h e o w = stands_fine tells s g r history now founds offered known before wrote old alerts definition h e o w
stands_fine_if (Err x) tells s g r history now founds offered known before wrote old alerts definition h e o w = tt

pub failed_so : (tells : Bool) (came : Result (List RuleElement) RuleFailure) (alerts : List Record) (g : Group) (r : RuleState) (now : ℕ) (error : RuleError) (f : RuleFailure) → error ≡ Failed f → Offers tells came alerts g r now (Err error)
    → HasFailed came alerts r now f
failed_so tells came alerts g r now error f is h = subst (λ (x : RuleError). Offers tells came alerts g r now (Err x)) is h

-- after a fault
pub stands_failed : (s : Settings) (g : Group) (r : RuleState) (history : List Entry) (now : ℕ) (f : RuleFailure) (known : RuleTemplates) (wrote : List (List Pair)) (old alerts : List Record) (definition : Rule)
    → StandsForRule known wrote old definition r → HasFailed (rule_outcome s g r history now) alerts r now f
    → StandsForRule known wrote alerts definition (with_lineage r (rule_step s g r history now).lineage)
stands_failed s g r history now f known wrote old alerts definition h failed =
    subst (λ (t : RuleStep). StandsForRule known wrote alerts definition (with_lineage r t.lineage)) (sym (step_failed s g r history now f failed.outcome))
    (record {
      rule = h.rule;
      templates = h.templates;
      previous = h.previous ∙ sym (fault_keeps r now f);
      records = λ alerting. failed.records alerting;
    })

pub stepped_failed : (tells : Bool) (a : Series) (rows : List Entry) (answer : RuleReport) (s : Settings) (g : Group) (r : RuleState) (history : List Entry) (now : ℕ) (f : RuleFailure) (alerts : List Record)
    → Holds a history → HasFailed (rule_outcome s g r history now) alerts r now f → answer ≡ (failed_step r now f).report
    → HasStepped tells a a rows rows answer history (rule_step s g r history now)
stepped_failed tells a rows answer s g r history now f alerts holds failed told =
    subst (λ (t : RuleStep). HasStepped tells a a rows rows answer history t) (sym (step_failed s g r history now f failed.outcome))
    (record { puts = puts_if_none tells a rows history holds; report = λ read. told })
