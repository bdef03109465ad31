-- Keys that are label sets, in label order.
use Rattle.std.proofs.Common.{◌≡◌, List, [], ◌∷◌, refl, ap}
use Rattle.std.specs.Ordering.{match_ordering}
use Rattle.std.specs.declared.cmp.Ordering.{Ordering}
use Rattle.std.specs.declared.cmp.Ordering.TheVariants.{Less, Equal, Greater}
use Rattle.pr_match.specs.pr_labels.declared.pair.Pair.{Pair}
use Rattle.pr_match.specs.pr_labels.Order.{labels_cmp}
use Rattle.pr_match.specs.pr_labels.Rising.{placed, with_labels}
use Rattle.pr_fn.specs.private.Gathered.{with_key}

labels_put : (o : Ordering) (labels first : List Pair) (rest more other : List (List Pair)) → more ≡ other → placed o labels first rest more ≡ match_ordering o (labels ∷ first ∷ rest) (first ∷ rest) (first ∷ other)
labels_put Less labels first rest more other h = refl
labels_put Equal labels first rest more other h = refl
labels_put Greater labels first rest more other h = ap (λ (r : List (List Pair)). first ∷ r) h

pub labels_key : (known : List (List Pair)) (labels : List Pair) → with_labels known labels ≡ with_key labels_cmp known labels
labels_key [] labels = refl
labels_key (first ∷ rest) labels = labels_put (labels_cmp labels first) labels first rest (with_labels rest labels) (with_key labels_cmp rest labels) (labels_key rest labels)
