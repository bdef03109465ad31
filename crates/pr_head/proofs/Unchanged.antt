-- Where two lists have the same label sets in order, none of the first is gone from the second.
use Rattle.std.proofs.Common.{◌≡◌, ℕ, Bool, true, false, not, cond, List, [], ◌∷◌, map, filter, refl, ap}
use Rattle.std.proofs.lemmas.Bool.{and_parts, or_left, or_right}
use Rattle.std.specs.Cmp.Lexicographic.{pointwise}
use Rattle.pr_labels.specs.declared.pair.Pair.{Pair}
use Rattle.pr_labels.specs.Order.{labels_eq}
use Rattle.pr_labels.specs.Rising.{is_among}
use Rattle.spec_history.specs.Puts.{marker, markers}

dropped : (b : Bool) (l : List Pair) (rest : List (List Pair)) → b ≡ true → rest ≡ [] → cond (not b) (l ∷ rest) rest ≡ []
dropped true l rest h none = none
dropped false l rest h none = cc

none_gone : (old new whole : List (List Pair)) → pointwise labels_eq old new ≡ true → ((l : List Pair) → is_among l new ≡ true → is_among l whole ≡ true)
    → filter (λ l. not (is_among l whole)) old ≡ []
none_gone [] new whole h within = refl
none_gone (l ∷ old) [] whole h within = cc
none_gone (l ∷ old) (n ∷ new) whole h within =
    let same = and_parts (labels_eq l n) (pointwise labels_eq old new) h in
    dropped (is_among l whole) l (filter (λ k. not (is_among k whole)) old)
    (within l (or_left (labels_eq l n) (is_among l new) same.0))
    (none_gone old new whole same.1 (λ k e. within k (or_right (labels_eq k n) (is_among k new) e)))

pub no_markers : (now : ℕ) (old new : List (List Pair)) → pointwise labels_eq old new ≡ true → markers now old new ≡ []
no_markers now old new h = ap (map (marker now)) (none_gone old new new h (λ l e. e))
