-- The text of a list, one pair after another.
use Rattle.std.proofs.Common.{◌≡◌, ℕ, List, ◌∷◌, ◌++◌, Bool, true, false, refl, ap, append_assoc, sym, ◌∙◌}
use Rattle.std.specs.Prelude.{codes, flat_map}
use Rattle.pr_labels.specs.declared.pair.Pair.{Pair}
use Rattle.pr_labels.specs.LabelSet.{has_name, metric_label}
use Rattle.pr_labels.specs.SeriesText.{following_text, left_text, opening, pair_text, unnamed}

-- the pair of the metric's name is passed over
left_skip : (s : Bool) (p : Pair) (ps : List Pair) → has_name metric_label p ≡ true → left_text s (p ∷ ps) ≡ left_text s ps
left_skip true p ps h = rw h refl
left_skip false p ps h = rw h refl

pub skipped : (s t : Bool) (p : Pair) (ps : List Pair) (text : List ℕ) → t ≡ has_name metric_label p → t ≡ true → text ++ left_text s ps ≡ text ++ left_text s (p ∷ ps)
skipped s t p ps text e h = ap (λ y. text ++ y) (sym (left_skip s p ps (sym e ∙ h)))

-- each other one is written behind a separator
left_next : (s : Bool) (p : Pair) (ps : List Pair) → has_name metric_label p ≡ false → opening s ++ (pair_text p ++ left_text true ps) ≡ left_text s (p ∷ ps)
left_next true p ps h = rw h (sym (ap (λ y. codes "," ++ y) (append_assoc (pair_text p) (flat_map following_text (unnamed ps)) (codes "}"))))
left_next false p ps h = rw h (sym (ap (λ y. codes "{" ++ y) (append_assoc (pair_text p) (flat_map following_text (unnamed ps)) (codes "}"))))

pub written : (s t : Bool) (p : Pair) (ps : List Pair) (old mid new : List ℕ) → t ≡ has_name metric_label p → t ≡ false → mid ≡ old ++ opening s → new ≡ mid ++ pair_text p →
    new ++ left_text true ps ≡ old ++ left_text s (p ∷ ps)
written s t p ps old mid new e h i k =
    ap (λ y. y ++ left_text true ps) (k ∙ ap (λ y. y ++ pair_text p) i) ∙ (append_assoc (old ++ opening s) (pair_text p) (left_text true ps)
    ∙ (append_assoc old (opening s) (pair_text p ++ left_text true ps) ∙ ap (λ y. old ++ y) (left_next s p ps (sym e ∙ h))))
