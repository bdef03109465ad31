-- A sample's series is what its text reads as.
use Rattle.std.proofs.Common.{◌≡◌, ℕ, List, Some, None, Bool, true, false}
use Rattle.std.specs.Prelude.{cond}
use Rattle.std.specs.Str.{is_utf8}
use Rattle.spec_world.specs.pr_labels.declared.pair.Pair.{Pair}
use Rattle.spec_world.specs.pr_labels.SeriesGrammar.{ReadsLabels}
use Rattle.spec_world.specs.pr_labels.SeriesReading.{series_labels}
use Rattle.spec_world.proofs.LabelsSeriesEnds.{labels_read, reading_given}
use Rattle.pr_text.specs.Script.{series_of}

of_read : (text : List ℕ) (b : Bool) (ls : List Pair) → cond b (series_labels text) None ≡ Some ls → ReadsLabels text ls
of_read text true ls e = labels_read text ls e
of_read text false ls e = absurd (cc)

pub is_series : (text : List ℕ) (ls : List Pair) → series_of text ≡ Some ls → ReadsLabels text ls
is_series text ls e = of_read text (is_utf8 text) ls e

pub is_sample : (text : List ℕ) (ls : List Pair) → is_utf8 text ≡ true → ReadsLabels text ls → series_of text ≡ Some ls
is_sample text ls u r = rw u (reading_given text ls r)
