-- What the labels of a small target read as, computed.
use Rattle.std.proofs.Common.{◌≡◌, codes, [], ◌∷◌, Some, refl}
use Rattle.pr_words.specs.pr_forms.Reading.{reading}
use Rattle.spec_world.specs.pr_labels.LabelSet.{pair_of}
use Rattle.spec_world.specs.pr_labels.SeriesReading.{series_pairs, series_labels}

pub a_is_b : series_labels (codes "{a='b'}") ≡ Some (pair_of (codes "a") (codes "b") ∷ [])
unfolding series_labels series_pairs reading
a_is_b = refl
