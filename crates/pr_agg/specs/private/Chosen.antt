-- Labels that are chosen where they stand.
use Rattle.std.specs.Prelude.{ℕ, Bool, true, false, not, ◌&&◌, List, map}
use Rattle.std.specs.Borrow.{Bor}
use Rattle.std.specs.Cmp.{IsEquivalence, and_equiv}
use Rattle.std.specs.Cmp.Lexicographic.{lists_equiv, on_texts_equal}
use Rattle.pr_labels.specs.declared.pair.Pair.{Pair}
use Rattle.pr_labels.specs.Edits.{is_listed}
use Rattle.pr_labels.specs.LabelSet.{has_name, metric_label}
use Rattle.pr_labels.specs.Order.{labels_eq, pair_eq}

-- the pairs that stand at places
abbrev pub pairs_at : List (Bor Pair) → List Pair
pairs_at places = map (λ p. p.now) places

-- whether a key has a pair: on the names, or without them and the metric's name
unfoldable pub is_in_key : Bool → List (List ℕ) → Pair → Bool
is_in_key true names p = is_listed names p
is_in_key false names p = not (is_listed names p) && not (has_name metric_label p)

-- label sets are equal as values are
pub pair_equiv : IsEquivalence pair_eq
pair_equiv = and_equiv (on_texts_equal (λ p. p.name)) (on_texts_equal (λ p. p.value))

pub labels_equiv : IsEquivalence labels_eq
labels_equiv = lists_equiv pair_equiv
