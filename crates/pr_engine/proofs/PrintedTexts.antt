-- What becomes of the texts that are remembered, when one more is; and what is found of a label set.
use Rattle.std.proofs.Common.{◌≡◌, ℕ, zero, suc, ◌+◌, ◌<◌, ◌≤◌, Bool, true, false, cond, if◌then◌else◌, List, [], ◌∷◌, length, Option, Some, refl, sym, subst, arith}
use Rattle.std.specs.Prelude.{IfSome, slice_get}
use Rattle.std.specs.Map.{lookup}
use Rattle.indexmap.specs.IndexMap.{insert_entry}
use Rattle.pr_labels.specs.declared.pair.Pair.{Pair}
use Rattle.pr_labels.specs.Order.{labels_eq}
use Rattle.pr_labels.specs.SeriesText.{series_text}
use Rattle.pr_labels.proofs.LabelOrder.{labels_decide}
use Rattle.pr_engine.specs.private.Texts.{AreFewTexts, AreSeriesTexts, AreShortTexts, HoldsOfEach, Texts}

module _ (Holds : List Pair → List ℕ → Type 0) (labels : List Pair) where
  -- the first of the texts is of these labels, or not
  put_first : (text : List ℕ) (e : List Pair × List ℕ) (es rest : Texts) (same : Bool) → (same ≡ true → labels ≡ e.0) → Holds labels text
      → HoldsOfEach Holds (e ∷ es) → HoldsOfEach Holds rest → HoldsOfEach Holds (if same then (e.0, text) ∷ es else e ∷ rest)
  put_first text e es rest true is new before after zero = subst (λ (l : List Pair). Holds l text) (is refl) new
  put_first text e es rest true is new before after (suc at) = before (suc at)
  put_first text e es rest false is new before after zero = before zero
  put_first text e es rest false is new before after (suc at) = after at

  put_alone : (text : List ℕ) → Holds labels text → HoldsOfEach Holds ((labels, text) ∷ [])
  put_alone text new zero = new
  put_alone text new (suc at) = tt

  put_each : (text : List ℕ) (texts : Texts) → Holds labels text → HoldsOfEach Holds texts → HoldsOfEach Holds (insert_entry labels_eq texts labels text)
  put_each text [] new before = put_alone text new
  put_each text (e ∷ es) new before =
      put_first text e es (insert_entry labels_eq es labels text) (labels_eq labels e.0) (labels_decide labels e.0).0 new before (put_each text es new (λ at. before (suc at)))

  found_first : (e : List Pair × List ℕ) (rest : Option (List ℕ)) (same : Bool) → (same ≡ true → labels ≡ e.0) → Holds e.0 e.1 → IfSome rest (Holds labels) → IfSome (cond same (Some e.1) rest) (Holds labels)
  found_first e rest true is this other = subst (λ (l : List Pair). Holds l e.1) (sym (is refl)) this
  found_first e rest false is this other = other

  found : (texts : Texts) → HoldsOfEach Holds texts → IfSome (lookup (labels_eq labels) texts) (Holds labels)
  found [] each = tt
  found (e ∷ es) each = found_first e (lookup (labels_eq labels) es) (labels_eq labels e.0) (labels_decide labels e.0).0 (each zero) (found es (λ at. each (suc at)))

-- what is found of a label set is its printed text
pub found_printed : (labels : List Pair) (texts : Texts) → AreSeriesTexts texts → IfSome (lookup (labels_eq labels) texts) (λ text. text ≡ series_text labels)
found_printed labels texts each = found (λ other text. text ≡ series_text other) labels texts each

-- one more at most is there
put_few : (old new : ℕ) (known : Bool) → new ≡ old + (if known then 0 else 1) → old < 65536 → new ≤ 65536
put_few old new true more room = omega (arith, more, room)
put_few old new false more room = omega (arith, more, room)

pub text_put : (old new : Texts) (labels : List Pair) (text : List ℕ) (known : Bool) → AreSeriesTexts old → AreShortTexts old
    → length old < 65536 → text ≡ series_text labels → length text ≤ 1024
    → new ≡ insert_entry labels_eq old labels text → length new ≡ length old + (if known then 0 else 1) → AreFewTexts new
text_put old new labels text known printed_before short_before room is is_short entries more = record {
  printed = subst AreSeriesTexts (sym entries) (put_each (λ other t. t ≡ series_text other) labels text old is printed_before);
  short = subst AreShortTexts (sym entries) (put_each (λ other t. length t ≤ 1024) labels text old is_short short_before);
  few = put_few (length old) (length new) known more room;
}

-- what stands at a place is the printed text of its label set, and of each that equals it
pub printed_there : (texts : Texts) (at : ℕ) (known labels : List Pair) (text : List ℕ) → AreSeriesTexts texts → slice_get texts at ≡ Some (known, text)
    → labels_eq known labels ≡ true → text ≡ series_text labels
printed_there texts at known labels text each there same =
    subst (λ (l : List Pair). text ≡ series_text l) ((labels_decide known labels).0 same)
    (subst (λ (e : Option (List Pair × List ℕ)). IfSome e (λ e. e.1 ≡ series_text e.0)) there (each at))
