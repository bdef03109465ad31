-- What is kept of rules stays true where the history grows.
use Rattle.std.proofs.Common.{◌≡◌, ℕ, ◌<◌, ◌≤◌, ◌⊎◌, inl, inr, false, List, [], ◌∷◌, ◌++◌, append-nil, append_assoc, length, Option, Some, None, sym, ap, ◌∙◌, subst, arith}
use Rattle.std.specs.List.{position_or_len}
use Rattle.std.proofs.lemmas.Option.{slice_get_within}
use Rattle.pr_ast.specs.pr_labels.declared.pair.Pair.{Pair}
use Rattle.pr_ast.specs.pr_labels.Order.{labels_eq}
use Rattle.pr_rule.specs.spec_history.declared.entry.Entry.{Entry}
use Rattle.pr_rule.specs.spec_history.private.Laws.{IsLawful}
use Rattle.pr_rule.specs.spec_history.Admission.{put_all}
use Rattle.pr_rule.proofs.HistoryLawful.{after_parts, put_all_lawful}
use Rattle.pr_rule.specs.pr_head.private.Holds.{arrivals}
use Rattle.pr_rule.specs.spec_history.Puts.{admitted}
use Rattle.pr_rule.proofs.HistoryPutting.{puts_admitted}
use Rattle.pr_rule.specs.pr_range.private.Asks.{LastAsk, LastAsks, Passed}
use Rattle.pr_rule.specs.pr_eval.private.RangeCallsAsking.{series_number}
use Rattle.pr_rule.specs.pr_eval.private.Evaluated.{passed_outside}
use Rattle.pr_rule.specs.spec_rules.declared.definitions.RuleDef.{RuleDef}
use Rattle.pr_rule.specs.spec_rules.Groups.{RuleState}
use Rattle.pr_group.specs.private.Within.{ArePassedWithin, IsPassedWithin}
use Rattle.pr_group.proofs.Falling.{later_within}
use Rattle.pr_group.proofs.Lists.{first_stays}
use Rattle.pr_group.proofs.ReadyNumbers.{arrivals_grow}
use Rattle.pr_rule.specs.declared.remembered.Remembered.{Remembered}
use Rattle.pr_group.specs.private.Keeping.{KeepsRule}
use Rattle.pr_group.proofs.Places.{first_or_past}

-- What was passed

unpassed : (history : List Entry) (last : LastAsks) (passed : Passed) (k n : ℕ) → ArePassedWithin history last passed → length (arrivals history) ≤ n → passed k n ≡ 0
unpassed history last passed k n h past = by (last k n) (h k n) where
  by : (l : Option LastAsk) → IsPassedWithin history n l (passed k n) → passed k n ≡ 0
  by None g = g
  by (Some b) g = let within = slice_get_within (arrivals history) n g.labels g.named in absurd (omega arith)

-- As much counts as passed over a later history: of a series that is new there nothing was.
pub same_passed : (history more : List Entry) (last : LastAsks) (passed : Passed) → ArePassedWithin history last passed → passed_outside false (history ++ more) passed ≡ passed_outside false history passed
same_passed history more last passed h = λ i k labels. by k labels (first_or_past (labels_eq labels) (arrivals history) (arrivals_grow history more).0) i where
  grown : (labels : List Pair) → series_number (history ++ more) labels ≡ position_or_len (labels_eq labels) (arrivals history ++ (arrivals_grow history more).0)
  grown labels = ap (position_or_len (labels_eq labels)) (arrivals_grow history more).1

  by : (k : ℕ) (labels : List Pair) → (series_number history labels < length (arrivals history)) ⊎ ((length (arrivals history) ≤ series_number history labels) × (length (arrivals history) ≤ position_or_len (labels_eq labels) (arrivals history ++ (arrivals_grow history more).0)))
      → passed k (series_number (history ++ more) labels) ≡ passed k (series_number history labels)
  by k labels (inl there) = ap (passed k) (grown labels ∙ first_stays (labels_eq labels) (arrivals history) (arrivals_grow history more).0 there)
  by k labels (inr past) =
      let new = subst (λ (n : ℕ). length (arrivals history) ≤ n) (sym (grown labels)) past.1 in
      unpassed history last passed k (series_number (history ++ more) labels) h new ∙ sym (unpassed history last passed k (series_number history labels) h past.0)

pub same_passed_put : (history entries : List Entry) (last : LastAsks) (passed : Passed) → ArePassedWithin history last passed → passed_outside false (put_all history entries) passed ≡ passed_outside false history passed
same_passed_put history entries last passed h = ap (λ (l : List Entry). passed_outside false l passed) (puts_admitted history entries) ∙ same_passed history (admitted history entries) last passed h

-- What ranges keep

abbrev pub Stays : {R : Type 0} → (R → List Entry → Type 0) → Type 0
Stays {R} fits = (s : R) (history : List Entry) (e : Entry) → IsLawful (history ++ e ∷ []) → fits s history → fits s (history ++ e ∷ [])

pub fits_stay : {R : Type 0} (fits : R → List Entry → Type 0) → Stays fits → (s : R) (history more : List Entry) → IsLawful (history ++ more) → fits s history → fits s (history ++ more)
fits_stay fits stays s history [] lawful h = subst (λ (l : List Entry). fits s l) (sym (append-nil history)) h
fits_stay fits stays s history (e ∷ more) lawful h =
    let whole : IsLawful ((history ++ e ∷ []) ++ more) = subst IsLawful (sym (append_assoc history (e ∷ []) more)) lawful in
    subst (λ (l : List Entry). fits s l) (append_assoc history (e ∷ []) more)
    (fits_stay fits stays s (history ++ e ∷ []) more whole (stays s history e (after_parts [] (history ++ e ∷ []) more whole).0 h))

-- Rules

pub rule_stays : {R : Type 0} (fits : R → List Entry → Type 0) (last : R → LastAsks) (passed : R → Passed) → Stays fits → (history more : List Entry) (until : Option ℕ) (definition : RuleDef) (m : Remembered R) (r : RuleState)
    → IsLawful (history ++ more) → KeepsRule fits last passed history until definition m r → KeepsRule fits last passed (history ++ more) until definition m r
rule_stays fits last passed stays history more until definition m r lawful k = record {
  stands = k.stands;
  truly = fits_stay fits stays m.ranges history more lawful k.truly;
  asked = k.asked;
  within = later_within history more (last m.ranges) (passed m.ranges) k.within;
}

pub rule_stays_put : {R : Type 0} (fits : R → List Entry → Type 0) (last : R → LastAsks) (passed : R → Passed) → Stays fits → (history entries : List Entry) (until : Option ℕ) (definition : RuleDef) (m : Remembered R) (r : RuleState)
    → IsLawful history → KeepsRule fits last passed history until definition m r → KeepsRule fits last passed (put_all history entries) until definition m r
rule_stays_put fits last passed stays history entries until definition m r lawful k =
    let are : put_all history entries ≡ history ++ admitted history entries = puts_admitted history entries in
    subst (λ (l : List Entry). KeepsRule fits last passed l until definition m r) (sym are)
    (rule_stays fits last passed stays history (admitted history entries) until definition m r (subst IsLawful are (put_all_lawful history entries lawful)) k)
