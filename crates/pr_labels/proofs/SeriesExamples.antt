-- What small series texts read as, computed.
use Rattle.std.proofs.Common.{◌≡◌, refl, codes, Some, None, [], ◌∷◌}
use Rattle.pr_words.specs.pr_forms.Reading.{reading, bad_place}
use Rattle.pr_labels.specs.LabelSet.{named, pair_of}
use Rattle.pr_labels.specs.SeriesReading.{series_pairs, series_labels, bad_series_place}

pub metric : series_labels (codes "m") ≡ Some (named (codes "m"))
unfolding series_labels series_pairs reading
metric = refl

pub none : series_labels (codes "{}") ≡ Some []
unfolding series_labels series_pairs reading
none = refl

pub listed : series_labels (codes "m {b='x',a=\"\",}") ≡ Some (pair_of (codes "__name__") (codes "m") ∷ pair_of (codes "b") (codes "x") ∷ [])
unfolding series_labels series_pairs reading
listed = refl

pub twice : series_labels (codes "{a=\"1\",a=\"2\"}") ≡ None
unfolding series_labels series_pairs reading
twice = refl

pub second_name : bad_series_place (codes "{a=\"1\",a=\"2\"}") ≡ 8
unfolding bad_series_place bad_place
second_name = refl

pub empty_value : series_labels (codes "up{a=\"\"}") ≡ Some (named (codes "up"))
unfolding series_labels series_pairs reading
empty_value = refl

pub not_classic : series_labels (codes "{__name__=\"a b\"}") ≡ Some (named (codes "a b"))
unfolding series_labels series_pairs reading
not_classic = refl

pub nothing : series_labels [] ≡ None
unfolding series_labels series_pairs reading
nothing = refl

pub blank_before : series_labels (codes " up") ≡ None
unfolding series_labels series_pairs reading
blank_before = refl

pub blank_after : series_labels (codes "up ") ≡ None
unfolding series_labels series_pairs reading
blank_after = refl

pub comma_alone : series_labels (codes "{,}") ≡ None
unfolding series_labels series_pairs reading
comma_alone = refl

pub comma_place : bad_series_place (codes "{,}") ≡ 1
unfolding bad_series_place bad_place
comma_place = refl

pub second_metric : series_labels (codes "up{__name__=\"x\"}") ≡ None
unfolding series_labels series_pairs reading
second_metric = refl
