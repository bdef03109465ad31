use Rattle.std.proofs.Common.{ℕ, List, length}
use Rattle.std.specs.Str.{IsUtf8}
use Rattle.pr_words.specs.pr_forms.Form.{Form, rule}
use Rattle.pr_words.specs.Strings.{Letter}
use Rattle.pr_labels.specs.SeriesGrammar.{Rule, SeriesValue, Items, Item}
use Rattle.pr_labels.specs.private.SeriesReader.{Reaches, names_of}
use Rattle.pr_labels.proofs.series.series.list_in.Given as goal

abbrev pub invariant-loop-found : goal.invariant-loop-found
invariant-loop-found l = record {
  read : (f : Form Letter Rule SeriesValue) (whole : List ℕ) → Reaches f whole l.fn.before.pairs.items (rule (Items (names_of l.fn.before.pairs.items))) l.text → Reaches f whole l.found.pairs.items (rule (Item (names_of l.found.pairs.items))) l.rest;
  text : IsUtf8 l.rest;
}

abbrev pub decreases-loop-found : goal.decreases-loop-found
decreases-loop-found l = length l.rest
