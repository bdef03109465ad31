-- Markers for the series of a list that are not in another one, put apart and then behind other
-- rows.
use Rattle.std.proofs.Common.{◌≡◌, ℕ, Bool, not, cond, List, [], ◌∷◌, ◌++◌, fold, refl, sym, ap, ◌∙◌}
use Rattle.std.specs.Prelude.{Result, Ok, Err, OnOk, IfOk, Vec}
use Rattle.std.specs.declared.alloc.Global.{Global}
use Rattle.pr_labels.specs.declared.pair.Pair.{Pair}
use Rattle.pr_labels.specs.Rising.{is_among, with_labels}
use Rattle.pr_labels.proofs.LabelOrder.{among_fold}
use Rattle.spec_history.specs.declared.entry.Entry.{Entry}
use Rattle.spec_history.specs.Puts.{admitted, label_sets_of, marker, markers}
use Rattle.spec_history.proofs.Putting.{picks}
use Rattle.pr_head.specs.private.Intake.{Puts, Series}

-- of two lists with the same label sets
pub markers_same : (now : ℕ) (old a b : List (List Pair)) → ((l : List Pair) → is_among l a ≡ is_among l b) → markers now old a ≡ markers now old b
markers_same now [] a b same = refl
markers_same now (l ∷ old) a b same =
    picks (λ k. not (is_among k a)) (marker now) l old
    ∙ ap (λ (c : Bool). cond (not c) (marker now l ∷ []) [] ++ markers now old a) (same l)
    ∙ ap (λ (m : List Entry). cond (not (is_among l b)) (marker now l ∷ []) [] ++ m) (markers_same now old a b same)
    ∙ sym (picks (λ k. not (is_among k b)) (marker now) l old)

pub markers_set : (now : ℕ) (old new : List (List Pair)) → markers now old (fold with_labels [] new) ≡ markers now old new
markers_set now old new = markers_same now old (fold with_labels [] new) new (λ l. among_fold l [] new)

-- rows that were put apart stand behind others
pub puts_behind : (a b : Series) (none marked r s history es : List Entry) → none ≡ [] → Puts a b none marked history es → s ≡ r ++ marked → Puts a b r s history es
puts_behind a b none marked r s history es begun p h = record {
  taken = p.taken;
  added = h ∙ ap (λ (l : List Entry). r ++ l) (p.added ∙ ap (λ (l : List Entry). l ++ admitted history es) begun);
}

pub series_marked : (a b : Series) (none marked history es : List Entry) (series : List (List Pair)) → none ≡ [] → Puts a b none marked history es → series ≡ label_sets_of marked
    → series ≡ label_sets_of (admitted history es)
series_marked a b none marked history es series begun p h = h ∙ ap label_sets_of (p.added ∙ ap (λ (l : List Entry). l ++ admitted history es) begun)

pub puts_behind_if : {T E : Type 0} (o : Result T E) (a b : Series) (none marked r s history es : List Entry) → none ≡ [] → Puts a b none marked history es → OnOk o (s ≡ r ++ marked)
    → OnOk o (Puts a b r s history es)
puts_behind_if (Ok v) a b none marked r s history es begun p h = puts_behind a b none marked r s history es begun p h
puts_behind_if (Err e) a b none marked r s history es begun p h = tt

pub series_marked_if : {E : Type 0} (o : Result (Vec (List Pair) Global) E) (a b : Series) (none marked history es : List Entry) → none ≡ [] → Puts a b none marked history es
    → IfOk o (λ v. v.items ≡ label_sets_of marked) → IfOk o (λ v. v.items ≡ label_sets_of (admitted history es))
series_marked_if (Ok v) a b none marked history es begun p h = series_marked a b none marked history es v.items begun p h
series_marked_if (Err e) a b none marked history es begun p h = tt
