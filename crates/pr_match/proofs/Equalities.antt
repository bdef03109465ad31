-- Matchers that ask for pairs.
use Rattle.std.proofs.Common.{◌≡◌, ◌&&◌, List, [], ◌∷◌, map, refl, ap}
use Rattle.std.specs.List.{list_all}
use Rattle.std.specs.Str.{bytes_eq}
use Rattle.pr_labels.specs.declared.pair.Pair.{Pair}
use Rattle.pr_labels.specs.LabelSet.{text_at}
use Rattle.pr_match.specs.Matcher.{equality, meets, meets_all}

pub equalities : (pairs labels : List Pair) → meets_all (map equality pairs) labels ≡ list_all (λ q. bytes_eq (text_at labels q.name) q.value) pairs
unfolding meets meets_all
equalities [] labels = refl
equalities (q ∷ qs) labels = ap (λ b. bytes_eq (text_at labels q.name) q.value && b) (equalities qs labels)
