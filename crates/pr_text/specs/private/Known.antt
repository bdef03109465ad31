-- What is remembered of series texts. Private contracts cite this: a reader can pass it over.
use Rattle.std.specs.Prelude.{◌≡◌, ℕ, ◌≤◌, List, Some, String, length}
use Rattle.indexmap.specs.IndexMap.{IndexMap, get_by_text}
use Rattle.spec_world.specs.pr_labels.declared.pair.Pair.{Pair}
use Rattle.spec_world.specs.pr_labels.SeriesReading.{series_labels}

-- Each text that is remembered reads as its label set.
abbrev pub AreKnown : {Y S : Type 0} → IndexMap (String Y) (List Pair) S → Type 0
AreKnown sets = (text : List ℕ) (labels : List Pair) → get_by_text sets text ≡ Some labels → series_labels text ≡ Some labels

-- No text that is remembered has more than 1,024 bytes.
abbrev pub AreShort : {Y S : Type 0} → IndexMap (String Y) (List Pair) S → Type 0
AreShort sets = (text : List ℕ) (labels : List Pair) → get_by_text sets text ≡ Some labels → length text ≤ 1024

-- Both, and there are not too many of them.
pub record AreFewKnown {Y S : Type 0} (sets : IndexMap (String Y) (List Pair) S) : Type 0 where
  pub read : AreKnown sets
  pub short : AreShort sets
  pub few : length sets.entries ≤ 65536
