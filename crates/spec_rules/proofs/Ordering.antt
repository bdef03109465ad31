-- What a rule comes to is in label order.
use Rattle.std.proofs.Common.{◌≡◌, ℕ, Bool, true, false, List, [], ◌∷◌, map, fold, Option, Some, None, Result, Ok, Err, IfOk, refl, sym, ap, ◌∙◌, subst}
use Rattle.std.specs.Prelude.{length}
use Rattle.std.specs.declared.cmp.Ordering.{Ordering}
use Rattle.std.specs.declared.cmp.Ordering.TheVariants.{Less, Equal, Greater}
use Rattle.pr_num.specs.declared.value.Num.{Num}
use Rattle.pr_ast.specs.pr_labels.declared.item.Item.{Item}
use Rattle.pr_ast.specs.pr_labels.declared.pair.Pair.{Pair}
use Rattle.pr_ast.specs.pr_labels.Order.{labels_cmp}
use Rattle.pr_ast.specs.pr_labels.Rising.{IsRising, placed as placed_labels, with_labels}
use Rattle.pr_ast.proofs.LabelsLabelOrder.{rising_fold, tied}
use Rattle.spec_alerts.specs.spec_history.declared.entry.Entry.{Entry}
use Rattle.spec_meaning.specs.spec_vectors.Functions.{least_twice}
use Rattle.spec_meaning.specs.declared.value.Value.{Value}
use Rattle.spec_meaning.specs.Answers.{go_on}
use Rattle.spec_meaning.specs.Meaning.{meaning}
use Rattle.spec_rules.specs.Definitions.{Rule}
use Rattle.spec_alerts.specs.declared.found.RuleElement.{RuleElement}
use Rattle.spec_alerts.specs.Records.{beyond, exceeding}
use Rattle.pr_tmpl.specs.declared.template.External.{External}
use Rattle.spec_rules.specs.declared.fault.RuleFailure.{RuleFailure}
use Rattle.spec_rules.specs.declared.fault.RuleFault.{RuleFault}
use Rattle.spec_rules.specs.Evaluations.{within_alerts, rule_outcome}
use Rattle.spec_rules.specs.Groups.{Group, RuleState}
use Rattle.spec_rules.specs.private.Laws.{FoundsRise}
use Rattle.spec_rules.specs.Results.{value_elements, failed_by, found_of, found_placed, in_found_order, without_place, rule_result_by, rule_result, ruled, sets_in, founds_apart, unless_beyond, unless_twice, with_found, within_limit}
use Rattle.spec_rules.specs.Settings.{Settings}

placed_sets : (f first : RuleElement) (rest : List RuleElement) (o : Ordering) → labels_cmp f.labels first.labels ≡ o → sets_in (with_found rest f) ≡ with_labels (sets_in rest) f.labels
    → sets_in (found_placed o f first rest (with_found rest f)) ≡ placed_labels o f.labels first.labels (sets_in rest) (with_labels (sets_in rest) f.labels)
placed_sets f first rest Less e h = refl
placed_sets f first rest Equal e h = ap (λ (l : List Pair). l ∷ sets_in rest) (tied f.labels first.labels e)
placed_sets f first rest Greater e h = ap (λ (l : List (List Pair)). first.labels ∷ l) h

with_sets : (fs : List RuleElement) (f : RuleElement) → sets_in (with_found fs f) ≡ with_labels (sets_in fs) f.labels
with_sets [] f = refl
with_sets (first ∷ rest) f = placed_sets f first rest (labels_cmp f.labels first.labels) refl (with_sets rest f)

fold_sets : (fs more : List RuleElement) → sets_in (fold with_found fs more) ≡ fold with_labels (sets_in fs) (sets_in more)
fold_sets fs [] = refl
fold_sets fs (f ∷ more) = fold_sets (with_found fs f) more ∙ ap (λ (l : List (List Pair)). fold with_labels l (sets_in more)) (with_sets fs f)

pub founds_rise : (founds : List RuleElement) → FoundsRise (in_found_order founds)
founds_rise founds = subst IsRising (sym (fold_sets [] founds)) (rising_fold [] (sets_in founds) tt)

-- what holds of an answer holds of what is made of it
goes_on : {A B E : Type 0} (P : A → Type 0) (Q : B → Type 0) (next : A → Result B E) (r : Result A E) → IfOk r P → ((a : A) → P a → IfOk (next a) Q) → IfOk (go_on next r) Q
goes_on P Q next (Ok a) h k = k a h
goes_on P Q next (Err e) h k = tt

anything : {A E : Type 0} (r : Result A E) → IfOk r (λ a. Unit {0})
anything (Ok a) = tt
anything (Err e) = tt

apart_rises : (o : Option (List Pair)) (founds : List RuleElement) → IfOk (unless_twice o founds) FoundsRise
apart_rises None founds = founds_rise founds
apart_rises (Some labels) founds = tt

beyond_rises : (limit : ℕ) (o : Option ℕ) (founds : List RuleElement) → FoundsRise founds → IfOk (unless_beyond limit o founds) FoundsRise
beyond_rises limit None founds h = h
beyond_rises limit (Some have) founds h = tt

limit_rises : (alert : Bool) (limit : ℕ) (founds : List RuleElement) → FoundsRise founds → IfOk (within_limit alert limit founds) FoundsRise
limit_rises true limit founds h = h
limit_rises false limit founds h = beyond_rises limit (beyond limit (length founds)) founds h

placed_rises : (r : Result (List RuleElement) RuleFault) → IfOk r FoundsRise → IfOk (without_place r) FoundsRise
placed_rises (Ok founds) h = h
placed_rises (Err kind) h = tt

ruled_rises : (external : External) (limit : ℕ) (rule : Rule) (items : List (Item Num)) → IfOk (ruled external limit rule items) FoundsRise
ruled_rises external limit rule items =
    let founds = map (found_of external rule) items in
    goes_on FoundsRise FoundsRise (within_limit rule.alert limit) (founds_apart founds) (apart_rises (least_twice (sets_in founds)) founds) (limit_rises rule.alert limit)

by_rises : (external : External) (limit : ℕ) (rule : Rule) (given : Result Value RuleFailure) → IfOk (rule_result_by external limit rule given) FoundsRise
by_rises external limit rule given =
    goes_on (λ v. Unit {0}) FoundsRise (λ v. without_place (ruled external limit rule (value_elements v))) given (anything given)
    (λ v h. placed_rises (ruled external limit rule (value_elements v)) (ruled_rises external limit rule (value_elements v)))

pub result_rises : (s : Settings) (limit : ℕ) (rule : Rule) (history : List Entry) (time : ℕ) → IfOk (rule_result s limit rule history time) FoundsRise
unfolding rule_result
result_rises s limit rule history time = by_rises s.external limit rule (failed_by (meaning s.subquery_step history rule.expr time))

counted_rises : (alert : Bool) (limit : ℕ) (r : RuleState) (now : ℕ) (result : Result (List RuleElement) RuleFailure) → IfOk result FoundsRise → IfOk (within_alerts alert limit r now result) FoundsRise
counted_rises false limit r now result h = h
counted_rises true limit r now result h =
    goes_on FoundsRise FoundsRise (λ founds. without_place (unless_beyond limit (exceeding limit r.lineage now r.rule.hold r.rule.keep founds) founds)) result h
    (λ founds k. placed_rises (unless_beyond limit (exceeding limit r.lineage now r.rule.hold r.rule.keep founds) founds)
    (beyond_rises limit (exceeding limit r.lineage now r.rule.hold r.rule.keep founds) founds k))

pub outcome_rises : (s : Settings) (g : Group) (r : RuleState) (history : List Entry) (now : ℕ) → IfOk (rule_outcome s g r history now) FoundsRise
unfolding rule_outcome
outcome_rises s g r history now = counted_rises r.rule.alert g.limit r now (rule_result s g.limit r.rule history now) (result_rises s g.limit r.rule history now)
