-- What rules wrote last, as it is remembered.
use Rattle.std.proofs.Common.{◌≡◌, ℕ, suc, ◌+◌, Bool, true, false, List, [], ◌∷◌, ◌++◌, flat_map, fold, length, slice_get, Option, Some, refl, sym, ◌∙◌, arith}
use Rattle.std.proofs.lemmas.List.Sums.{fold-append}
use Rattle.std.specs.Prelude.{Result, Ok, Err, IfOk}
use Rattle.pr_ast.specs.pr_labels.declared.pair.Pair.{Pair}
use Rattle.pr_ast.specs.pr_labels.Rising.{with_labels}
use Rattle.pr_rule.specs.spec_vectors.Vectors.{in_label_order}
use Rattle.pr_rule.specs.spec_alerts.Lineage.{previous}
use Rattle.pr_rule.specs.spec_rules.Groups.{RuleState}
use Rattle.pr_rule.specs.declared.remembered.Remembered.{Remembered}
use Rattle.pr_group.specs.private.Carrying.{previous_in}
use Rattle.pr_group.specs.private.Matching.{is_named, kept_if, spared_from}
use Rattle.pr_group.proofs.Unused.{somes}

-- Label sets are put among others in two parts.
pub in_two_parts : (sets first second : List (List Pair)) → fold with_labels (fold with_labels sets first) second ≡ fold with_labels sets (first ++ second)
in_two_parts sets first second = sym (fold-append with_labels sets first second)

pub listed_so : {V E : Type 0} (items : V → List (List Pair)) (r : Result V E) (keys first second : List (List Pair)) → keys ≡ fold with_labels (fold with_labels [] first) second → IfOk r (λ v. items v ≡ keys) → IfOk r (λ v. items v ≡ in_label_order (first ++ second))
listed_so items (Ok v) keys first second e h = h ∙ e ∙ in_two_parts [] first second
listed_so items (Err x) keys first second e h = tt

-- each remembers what its rule wrote last
abbrev pub AllWrote : {R : Type 0} → List (Remembered R) → List RuleState → Type 0
AllWrote {R} ms rs = (i : ℕ) (m : Remembered R) (r : RuleState) → slice_get ms i ≡ Some m → slice_get rs i ≡ Some r → m.previous ≡ previous r.lineage

module _ {R : Type 0} where
  pub all_wrote : (ms : List (Remembered R)) (rs : List RuleState) → length ms ≡ length rs → AllWrote ms rs → flat_map (λ m. m.previous) ms ≡ flat_map (λ r. previous r.lineage) rs
  all_wrote [] [] e h = refl
  all_wrote [] (r ∷ rs) e h = absurd (omega arith)
  all_wrote (m ∷ ms) [] e h = absurd (omega arith)
  all_wrote (m ∷ ms) (r ∷ rs) e h =
      let rest = all_wrote ms rs (omega arith) (λ i x y at there. h (suc i) x y at there) in
      λ j. h 0 m r refl refl j ++ rest j

  pub spared_wrote : (i : ℕ) (from : List (Option ℕ)) (ms : List (Remembered R)) (rs : List RuleState) → length ms ≡ length rs → AllWrote ms rs
      → flat_map previous_in (spared_from i from ms) ≡ flat_map (λ r. previous r.lineage) (somes (spared_from i from rs))
  spared_wrote i from [] [] e h = refl
  spared_wrote i from [] (r ∷ rs) e h = absurd (omega arith)
  spared_wrote i from (m ∷ ms) [] e h = absurd (omega arith)
  spared_wrote i from (m ∷ ms) (r ∷ rs) e h = by (is_named i from) (spared_wrote (i + 1) from ms rs (omega arith) (λ j x y at there. h (suc j) x y at there)) where
    by : (t : Bool) → flat_map previous_in (spared_from (i + 1) from ms) ≡ flat_map (λ r. previous r.lineage) (somes (spared_from (i + 1) from rs))
        → previous_in (kept_if t m) ++ flat_map previous_in (spared_from (i + 1) from ms) ≡ flat_map (λ r. previous r.lineage) (somes (kept_if t r ∷ spared_from (i + 1) from rs))
    by true rest = rest
    by false rest = λ j. h 0 m r refl refl j ++ rest j
