-- One rule in the evaluation of its group.
use Rattle.std.proofs.Common.{◌≡◌, ℕ, ◌+◌, ◌≤◌, pos, ◌-ℤ◌, ◌≤ℤ◌, Bool, true, false, List, Option, Some, None, Result, Ok, Err, OnOk, refl, sym, subst, arith}
use Rattle.std.specs.Prelude.{IfOk, IfSome, is_ok}
use Rattle.std.proofs.lemmas.Int.{ints}
use Rattle.pr_rule.specs.spec_history.declared.entry.Entry.{Entry}
use Rattle.pr_ast.specs.Reach.{reads_back}
use Rattle.pr_ast.specs.Tree.{Tree, tree_of}
use Rattle.pr_rule.specs.pr_types.private.Checking.{MayEvaluate}
use Rattle.pr_rule.specs.pr_tmpl.declared.template.External.{External}
use Rattle.pr_rule.specs.spec_rules.declared.definitions.RuleDef.{RuleDef}
use Rattle.pr_rule.specs.spec_rules.Definitions.{Rule, rule_of_def}
use Rattle.pr_rule.specs.spec_meaning.declared.fault.Fault.{Fault}
use Rattle.pr_rule.specs.spec_meaning.declared.value.Value.{Value}
use Rattle.pr_rule.specs.spec_meaning.private.Cost.{PassedFor, cost}
use Rattle.pr_rule.specs.spec_meaning.Meaning.{meaning}
use Rattle.pr_rule.specs.spec_alerts.declared.found.RuleElement.{RuleElement}
use Rattle.pr_rule.specs.pr_range.private.Asks.{LastAsks, Passed}
use Rattle.pr_rule.specs.pr_eval.private.Evaluated.{AreAllAsked, AreReady, KeptOfRanges, MayBegin, asks_of, kept_by, passed_outside}
use Rattle.pr_rule.specs.pr_head.private.Intake.{Series}
use Rattle.pr_rule.specs.spec_rules.declared.fault.RuleFailure.{RuleFailure}
use Rattle.pr_rule.specs.spec_rules.declared.report.RuleReport.{RuleReport}
use Rattle.pr_rule.specs.spec_rules.Evaluations.{rule_outcome, rule_step, with_lineage, within_alerts}
use Rattle.pr_rule.specs.spec_rules.Groups.{Group, RuleState}
use Rattle.pr_rule.specs.spec_rules.private.Passed.{ArePassed, IsPassedByRule}
use Rattle.pr_rule.specs.spec_rules.Results.{failed_by, rule_result, rule_result_by}
use Rattle.pr_rule.specs.spec_rules.Settings.{Settings}
use Rattle.pr_rule.specs.spec_rules.private.Times.{IsAfter}
use Rattle.pr_group.specs.private.Asked.{WasAsked}
use Rattle.pr_group.specs.private.Within.{ArePassedWithin}
use Rattle.pr_group.proofs.Falling.{asked_falls_not, asked_within}
use Rattle.pr_group.proofs.Passing.{all_passed}
use Rattle.pr_group.proofs.ReadyReady.{asks_asked, asks_ready}
use Rattle.pr_rule.specs.declared.remembered.Remembered.{Remembered}
use Rattle.pr_rule.specs.private.Standing.{HasStepped, StandsForRule}
use Rattle.pr_group.specs.private.Evaluating.{HasDone}
use Rattle.pr_group.specs.private.Keeping.{KeepsRule, MayEvaluateOver}
use Rattle.pr_group.proofs.Staying.{Stays, rule_stays_put, same_passed_put}

-- What may be evaluated

pub early_of : (now : ℕ) (until : Option ℕ) → IsAfter now until → IfSome until (λ u. u ≤ now)
early_of now None h = tt
early_of now (Some u) h = omega arith

back_enough : (time back : ℕ) → back ≤ 3888000000 → (pos time -ℤ pos 3888000000) ≤ℤ (pos time -ℤ pos back)
back_enough time back h = omega (arith, ints)

pub may_begin : (head : Series) (history : List Entry) (t : Tree) (time : ℕ) (Fits : Type 0) (last : LastAsks) (until : Option ℕ) → MayEvaluateOver head history time → MayEvaluate t → Fits → WasAsked last t until → IfSome until (λ u. u ≤ time)
    → MayBegin head history t time Fits last
may_begin head history t time Fits last until over checked fits asked early = record {
  keeps = record { lawful = over.lawful; holds = over.holds; forgotten = pos time -ℤ pos 3888000000; whole = over.whole; back = back_enough time (reads_back t) checked.reaches };
  fits = fits;
  ready = asks_ready last t until history time asked early;
}

-- What was passed

if_fine : (o : Result (List RuleElement) RuleFailure) (P : Type 0) → ((founds : List RuleElement) → o ≡ Ok founds → P) → IfOk o (λ founds. P)
if_fine (Ok v) P h = h v refl
if_fine (Err e) P h = tt

fine_within : (b : Bool) (limit : ℕ) (r : RuleState) (now : ℕ) (result : Result (List RuleElement) RuleFailure) (founds : List RuleElement) → within_alerts b limit r now result ≡ Ok founds → is_ok result ≡ true
fine_within false limit r now (Ok v) founds e = refl
fine_within true limit r now (Ok v) founds e = refl
fine_within false limit r now (Err f) founds e = absurd (cc)
fine_within true limit r now (Err f) founds e = absurd (cc)

fine_result : (external : External) (limit : ℕ) (rule : Rule) (meant : Result Value Fault) → is_ok (rule_result_by external limit rule (failed_by meant)) ≡ true → is_ok meant ≡ true
fine_result external limit rule (Ok v) e = refl
fine_result external limit rule (Err f) e = absurd (cc)

-- a rule comes to a result only where its expression does
fine_meant : (s : Settings) (g : Group) (r : RuleState) (history : List Entry) (now : ℕ) (founds : List RuleElement) → rule_outcome s g r history now ≡ Ok founds → is_ok (meaning s.subquery_step history r.rule.expr now) ≡ true
unfolding rule_outcome rule_result
fine_meant s g r history now founds e =
    fine_result s.external g.limit r.rule (meaning s.subquery_step history r.rule.expr now) (fine_within r.rule.alert g.limit r now (rule_result s g.limit r.rule history now) founds e)

pub rule_passed : (keeps : Bool) (s : Settings) (g : Group) (r : RuleState) (history : List Entry) (now : ℕ) (before after : KeptOfRanges) → keeps ≡ true → ArePassedWithin history before.last before.passed
    → AreReady before.last 0 (asks_of history r.rule.expr now) → AreAllAsked keeps history (is_ok (meaning s.subquery_step history r.rule.expr now)) (asks_of history r.rule.expr now) 0 before after
    → IsPassedByRule s g r history now (passed_outside false history before.passed) (passed_outside false history after.passed)
rule_passed keeps s g r history now before after is within ready asked = record {
  none_falls = asked_falls_not keeps history (is_ok (meaning s.subquery_step history r.rule.expr now)) r.rule.expr now before after within ready asked;
  fine = if_fine (rule_outcome s g r history now) (ArePassed history (passed_outside false history after.passed) r.rule.expr 0 now)
      (λ founds e. all_passed history r.rule.expr now before after
      (subst (λ (b : Bool). AreAllAsked b history true (asks_of history r.rule.expr now) 0 before after) is
      (subst (λ (b : Bool). AreAllAsked keeps history b (asks_of history r.rule.expr now) 0 before after) (fine_meant s g r history now founds e) asked)));
}

-- The rule

-- what an evaluation asks, in the words of the rule
asked_of_rule : (blank : ℕ) (s : Settings) (definition : Rule) (rule : Rule) (keeps : Bool) (history : List Entry) (now : ℕ) (before after : KeptOfRanges) → blank ≡ s.subquery_step → definition ≡ rule
    → AreAllAsked keeps history (is_ok (meaning blank history definition.expr now)) (asks_of history definition.expr now) 0 before after
    → AreAllAsked keeps history (is_ok (meaning s.subquery_step history rule.expr now)) (asks_of history rule.expr now) 0 before after
asked_of_rule blank s definition rule keeps history now before after step is asked =
    subst (λ (x : Rule). AreAllAsked keeps history (is_ok (meaning s.subquery_step history x.expr now)) (asks_of history x.expr now) 0 before after) is
    (subst (λ (n : ℕ). AreAllAsked keeps history (is_ok (meaning n history definition.expr now)) (asks_of history definition.expr now) 0 before after) step asked)

pub rule_done : {R : Type 0} (fits : R → List Entry → Type 0) (last : R → LastAsks) (passed : R → Passed) (keeps tells : Bool) → Stays fits
    → (blank : ℕ) (s : Settings) (g : Group) (r : RuleState) (history : List Entry) (now : ℕ) (until : Option ℕ) (definition : RuleDef) (before after : Remembered R) (old new : Series) (rows more : List Entry) (answer : RuleReport)
    → blank ≡ s.subquery_step → MayEvaluateOver old history now → IfSome until (λ u. u ≤ now) → KeepsRule fits last passed history until definition before r
    → HasStepped tells old new rows more answer history (rule_step s g r history now)
    → StandsForRule after.templates after.previous after.records (rule_of_def definition) (with_lineage r (rule_step s g r history now).lineage)
    → fits after.ranges history
    → AreAllAsked keeps history (is_ok (meaning blank history (tree_of definition.expr) now)) (asks_of history (tree_of definition.expr) now) 0 (kept_by (last before.ranges) (passed before.ranges)) (kept_by (last after.ranges) (passed after.ranges))
    → HasDone fits last passed keeps tells s g r history now definition before after old new rows more answer
rule_done fits last passed keeps tells stays blank s g r history now until definition before after old new rows more answer step over early kept stepped stands truly asked =
    let was = kept_by (last before.ranges) (passed before.ranges) in
    let is = kept_by (last after.ranges) (passed after.ranges) in
    let whole = is_ok (meaning blank history (tree_of definition.expr) now) in
    let same = kept.stands.rule in
    let ready : AreReady (last before.ranges) 0 (asks_of history r.rule.expr now) =
    subst (λ (x : Rule). AreReady (last before.ranges) 0 (asks_of history x.expr now)) same (asks_ready (last before.ranges) (tree_of definition.expr) until history now kept.asked early) in
    record {
      stepped = stepped;
      kept = rule_stays_put fits last passed stays history (rule_step s g r history now).entries (Some now) definition after (with_lineage r (rule_step s g r history now).lineage) over.lawful
          (record {
            stands = stands;
            truly = truly;
            asked = asks_asked keeps history whole (tree_of definition.expr) now until was is kept.asked early asked;
            within = asked_within keeps history whole (tree_of definition.expr) now was is kept.within asked;
          });
      passing = λ keeping.
          subst (λ (w : PassedFor). IsPassedByRule s g r history now (passed_outside false history (passed before.ranges)) w)
          (sym (same_passed_put history (rule_step s g r history now).entries (last after.ranges) (passed after.ranges) (asked_within keeps history whole (tree_of definition.expr) now was is kept.within asked)))
          (rule_passed keeps s g r history now was is keeping kept.within ready (asked_of_rule blank s (rule_of_def definition) r.rule keeps history now was is step same asked));
    }

pub rule_done_if : {R E : Type 0} (o : Result RuleReport E) (fits : R → List Entry → Type 0) (last : R → LastAsks) (passed : R → Passed) (keeps tells : Bool) → Stays fits
    → (blank : ℕ) (s : Settings) (g : Group) (r : RuleState) (history : List Entry) (now : ℕ) (until : Option ℕ) (definition : RuleDef) (before after : Remembered R) (old new : Series) (rows more : List Entry)
    → blank ≡ s.subquery_step → MayEvaluateOver old history now → IfSome until (λ u. u ≤ now) → KeepsRule fits last passed history until definition before r
    → IfOk o (λ answer. HasStepped tells old new rows more answer history (rule_step s g r history now))
    → OnOk o (StandsForRule after.templates after.previous after.records (rule_of_def definition) (with_lineage r (rule_step s g r history now).lineage))
    → OnOk o (fits after.ranges history)
    → OnOk o (AreAllAsked keeps history (is_ok (meaning blank history (tree_of definition.expr) now)) (asks_of history (tree_of definition.expr) now) 0 (kept_by (last before.ranges) (passed before.ranges)) (kept_by (last after.ranges) (passed after.ranges)))
    → IfOk o (λ answer. HasDone fits last passed keeps tells s g r history now definition before after old new rows more answer)
rule_done_if (Ok answer) fits last passed keeps tells stays blank s g r history now until definition before after old new rows more step over early kept stepped stands truly asked =
    rule_done fits last passed keeps tells stays blank s g r history now until definition before after old new rows more answer step over early kept stepped stands truly asked
rule_done_if (Err e) fits last passed keeps tells stays blank s g r history now until definition before after old new rows more step over early kept stepped stands truly asked = tt

-- how many samples are read for it, in the words of the rule
pub rule_reads : (blank : ℕ) (s : Settings) (definition rule : Rule) (history : List Entry) (u : PassedFor) (now before after : ℕ) → blank ≡ s.subquery_step → definition ≡ rule
    → after ≤ before + cost blank history u definition.expr 0 now → after ≤ before + cost s.subquery_step history u rule.expr 0 now
rule_reads blank s definition rule history u now before after step is h =
    subst (λ (x : Rule). after ≤ before + cost s.subquery_step history u x.expr 0 now) is (subst (λ (n : ℕ). after ≤ before + cost n history u definition.expr 0 now) step h)
