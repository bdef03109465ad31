-- One step of merging.
use Rattle.std.specs.Prelude.{◌≡◌, ℕ, ◌<◌, List, [], ◌∷◌, ◌++◌, Some, None, length}
use Rattle.std.specs.declared.cmp.Ordering.{Ordering}
use Rattle.std.specs.declared.cmp.Ordering.TheVariants.{Less, Equal, Greater}
use Rattle.std.proofs.Common.{refl, sym, ◌∙◌, ap}
use Rattle.std.proofs.lemmas.List.{append_assoc, append-nil, nil_from_length}
use Rattle.pr_labels.specs.Order.{labels_cmp}
use Rattle.spec_rules.specs.spec_alerts.declared.found.RuleElement.{RuleElement}
use Rattle.spec_rules.specs.spec_alerts.declared.record.Record.{Record}
use Rattle.pr_rule.specs.private.Merging.{Moment, found_at, merged, merged_with, met, missing_at}
use Rattle.pr_rule.specs.private.Turns.{HasTurn, turn}

merged_less : (m : Moment) (r : Record) (rs : List Record) (fs : List RuleElement) → turn (r ∷ rs) fs ≡ Less
    → merged m fs (r ∷ rs) ≡ missing_at m r ++ merged m fs rs
merged_less m r rs [] h = refl
merged_less m r rs (f ∷ fs) h = ap (λ o. met m o r f (merged_with m f (merged m fs) rs) (merged m fs rs) (merged m fs (r ∷ rs))) h

pub step_less : (m : Moment) (out : List Record) (r : Record) (rs olds : List Record) (fs : List RuleElement) → olds ≡ r ∷ rs → turn olds fs ≡ Less
    → (out ++ missing_at m r) ++ merged m fs rs ≡ out ++ merged m fs olds
step_less m out r rs olds fs e h =
    append_assoc out (missing_at m r) (merged m fs rs)
    ∙ (ap (λ l. out ++ l) (sym (merged_less m r rs fs (sym (ap (λ os. turn os fs) e) ∙ h))) ∙ ap (λ os. out ++ merged m fs os) (sym e))

pub step_both : (m : Moment) (out : List Record) (r : Record) (f : RuleElement) (rs olds : List Record) (fs found : List RuleElement)
    → olds ≡ r ∷ rs → found ≡ f ∷ fs → turn olds found ≡ Equal
    → (out ++ found_at m (Some r) f ∷ []) ++ merged m fs rs ≡ out ++ merged m found olds
step_both m out r f rs olds fs found e d h =
    append_assoc out (found_at m (Some r) f ∷ []) (merged m fs rs)
    ∙ (ap (λ l. out ++ l) (sym (both (sym (λ i. turn (e i) (d i)) ∙ h))) ∙ (λ i. out ++ merged m (sym d i) (sym e i)))
  where
    both : labels_cmp r.labels f.labels ≡ Equal → merged m (f ∷ fs) (r ∷ rs) ≡ found_at m (Some r) f ∷ merged m fs rs
    both k = ap (λ o. met m o r f (merged_with m f (merged m fs) rs) (merged m fs rs) (merged m fs (r ∷ rs))) k

high : (m : Moment) (f : RuleElement) (rs : List Record) (fs : List RuleElement) → turn rs (f ∷ fs) ≡ Greater
    → merged m (f ∷ fs) rs ≡ found_at m None f ∷ merged m fs rs
high m f [] fs h = refl
high m f (r ∷ rs) fs h = ap (λ o. met m o r f (merged_with m f (merged m fs) rs) (merged m fs rs) (merged m fs (r ∷ rs))) h

pub step_high : (m : Moment) (out : List Record) (f : RuleElement) (rs : List Record) (fs found : List RuleElement)
    → found ≡ f ∷ fs → turn rs found ≡ Greater
    → (out ++ found_at m None f ∷ []) ++ merged m fs rs ≡ out ++ merged m found rs
step_high m out f rs fs found d h =
    append_assoc out (found_at m None f ∷ []) (merged m fs rs)
    ∙ (ap (λ l. out ++ l) (sym (high m f rs fs (sym (ap (turn rs) d) ∙ h))) ∙ ap (λ os. out ++ merged m os rs) (sym d))

-- where both lists have a first one, whichever stands first
pub both_first : (o : Ordering) (n k : ℕ) → 0 < n → 0 < k → HasTurn o n k
both_first Less n k h g = h
both_first Equal n k h g = λ s. (h, g)
both_first Greater n k h g = g

-- at the end nothing is left to merge
pub merged_end : (m : Moment) (out : List Record) (rs : List Record) (fs : List RuleElement) → length rs ≡ 0 → length fs ≡ 0
    → out ++ merged m fs rs ≡ out
merged_end m out rs fs h k = (λ i. out ++ merged m (nil_from_length fs k i) (nil_from_length rs h i)) ∙ append-nil out
