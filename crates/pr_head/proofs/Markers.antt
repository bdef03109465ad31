-- Markers of series in parts.
use Rattle.std.proofs.Common.{◌≡◌, ℕ, Bool, not, List, [], ◌∷◌, ◌++◌, map, filter, refl, ap, ◌∙◌}
use Rattle.std.proofs.lemmas.List.{map-append}
use Rattle.std.proofs.lemmas.List.Elements.{filter-append}
use Rattle.pr_labels.specs.declared.pair.Pair.{Pair}
use Rattle.pr_labels.specs.Rising.{is_among}
use Rattle.spec_history.specs.declared.entry.Entry.{Entry}
use Rattle.spec_history.specs.Puts.{marker, markers}

pub markers_parts : (now : ℕ) (new xs ys : List (List Pair)) → markers now (xs ++ ys) new ≡ markers now xs new ++ markers now ys new
markers_parts now new xs ys =
    let is_old : List Pair → Bool = λ labels. not (is_among labels new) in
    ap (map (marker now)) (filter-append is_old xs ys) ∙ map-append (marker now) (filter is_old xs) (filter is_old ys)

-- where nothing is tracked any more, each series is marked
pub markers_all : (now : ℕ) (old : List (List Pair)) → markers now old [] ≡ map (marker now) old
markers_all now [] = refl
markers_all now (labels ∷ old) = ap (λ (l : List Entry). marker now labels ∷ l) (markers_all now old)
