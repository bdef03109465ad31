-- What an answer that equals a definition's is.
use Rattle.std.proofs.Common.{◌≡◌, ◌≢◌, ℕ, List, [], ◌∷◌, Result, Ok, Err, IfOk, IfErr, IsOk, MatchResult, refl, sym, ap, ◌∙◌, subst}
use Rattle.std.specs.Str.{IsUtf8}
use Rattle.pr_num.specs.declared.value.Num.{Num}
use Rattle.pr_num.specs.declared.value.TooWide.{TooWide}
use Rattle.pr_num.specs.Arithmetic.{too_wide}
use Rattle.pr_window.specs.pr_labels.declared.pair.Pair.{Pair}
use Rattle.pr_window.specs.pr_labels.declared.item.Item.{Item}
use Rattle.pr_window.specs.pr_labels.declared.grouping.Grouping.{Grouping}
use Rattle.pr_window.specs.pr_labels.Rising.{IsRising}
use Rattle.pr_window.proofs.LabelsLabelOrder.{rising_fold}
use Rattle.pr_window.specs.spec_vectors.private.Laws.{IsVector}
use Rattle.pr_window.specs.spec_vectors.Vectors.{in_label_order, label_sets}
use Rattle.pr_window.specs.spec_vectors.Aggregation.{of_groups, always}
use Rattle.pr_window.proofs.VectorsAggregation.{aggregated_alike, always_is_ok}
use Rattle.pr_agg.specs.declared.fault.AggFault.{AggFault}
use Rattle.pr_agg.specs.declared.fault.AggFault.TheVariants as fault

module _ {V E : Type 0} (items : V → List (Item Num)) where
  -- what equals a vector is one
  pub still_vector : (r : Result V E) (xs : List (Item Num)) → IsVector xs → IfOk r (λ v. items v ≡ xs) → IfOk r (λ v. IsVector (items v))
  still_vector (Ok v) xs h e = subst (λ (ys : List (Item Num)). IsVector ys) (sym e) h
  still_vector (Err x) xs h e = tt

  pub labels_rise : (r : Result V E) (sets known : List (List Pair)) → known ≡ in_label_order sets → IfOk r (λ v. label_sets (items v) ≡ known) → IfOk r (λ v. IsVector (items v))
  labels_rise (Ok v) sets known k e = subst (λ (ys : List (List Pair)). IsRising ys) (sym (e ∙ k)) (rising_fold [] sets tt)
  labels_rise (Err x) sets known k e = tt

  -- what is given is what the definition answers
  pub as_answered : (r : Result V E) (answer : Result (List (Item Num)) TooWide) (xs : List (Item Num)) → answer ≡ Ok xs → IfOk r (λ v. items v ≡ xs) → IfOk r (λ v. answer ≡ Ok (items v))
  as_answered (Ok v) answer xs h e = h ∙ ap (λ (ys : List (Item Num)). Ok ys) (sym e)
  as_answered (Err x) answer xs h e = tt

-- an aggregation that always has a value is never too wide
ok_is_no_fault : (x : Result (List (Item Num)) TooWide) (e : TooWide) → IsOk x → x ≢ Err e
ok_is_no_fault (Ok xs) e h k = cc
ok_is_no_fault (Err f) e h k = cc

pub record IsAlways {V : Type 0} (items : V → List (Item Num)) (r : Result V AggFault) (answer : Result (List (Item Num)) TooWide) : Type 0 where
  pub narrow : IfErr r (λ e. e ≢ fault.TooWide)
  pub value : IfOk r (λ v. answer ≡ Ok (items v))

module _ {V : Type 0} (items : V → List (Item Num)) where
  always_is : (r : Result V AggFault) (answer : Result (List (Item Num)) TooWide) → IsOk answer
      → MatchResult r (λ v. answer ≡ Ok (items v)) (λ e. e ≡ fault.TooWide → answer ≡ Err too_wide) → IsAlways items r answer
  always_is (Ok v) answer h m = record { narrow = tt; value = m }
  always_is (Err e) answer h m = record { narrow = λ k. ok_is_no_fault answer too_wide h (m k); value = tt }

  pub always_answered : (r : Result V AggFault) (g : List Num → Num) (h : List Num → Result Num TooWide) (by : Grouping) (vector : List (Item Num))
      → ((x : Num) (xs : List Num) → h (x ∷ xs) ≡ always g (x ∷ xs))
      → MatchResult r (λ v. of_groups h by vector ≡ Ok (items v)) (λ e. e ≡ fault.TooWide → of_groups h by vector ≡ Err too_wide)
      → IsAlways items r (of_groups (always g) by vector)
  always_answered r g h by vector agree m =
      always_is r (of_groups (always g) by vector) (always_is_ok g by vector)
      (subst (λ (x : Result (List (Item Num)) TooWide). MatchResult r (λ v. x ≡ Ok (items v)) (λ e. e ≡ fault.TooWide → x ≡ Err too_wide)) (aggregated_alike h (always g) agree by vector) m)

  -- the same answer without faults
  pub carried : {E : Type 0} (s : Result V E) (r : Result V AggFault) (P : List (Item Num) → Type 0) → IfOk s (λ v. r ≡ Ok v) → IfOk r (λ v. P (items v)) → IfOk s (λ v. P (items v))
  carried (Ok v) r P e h = subst (λ (q : Result V AggFault). IfOk q (λ w. P (items w))) e h
  carried (Err x) r P e h = tt

-- bytes that are UTF-8 are a text
pub text_is_ok : {X E : Type 0} (P : X → Type 0) (Q : E → Type 0) (r : Result X E) (bytes : List ℕ) → MatchResult r P (λ e. ¬ (IsUtf8 bytes) × Q e) → IsUtf8 bytes → IsOk r
text_is_ok P Q (Ok x) bytes h u = refl
text_is_ok P Q (Err e) bytes h u = absurd (h.0 u)
