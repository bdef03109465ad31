use Rattle.std.proofs.Common.{◌≤◌, length}
use Rattle.pr_words.specs.private.Reader.{KeepsText}
use Rattle.pr_labels.specs.SeriesGrammar.{blanks}
use Rattle.pr_words.specs.pr_forms.Language.{Leads}
use Rattle.pr_labels.specs.private.SeriesReader.{series}
use Rattle.pr_labels.proofs.series.series.blanks_in.Given as goal

abbrev pub invariant-loop-blank : goal.invariant-loop-blank
invariant-loop-blank l = record {
  leads : Leads series blanks l.text blanks l.rest;
  shorter : length l.rest ≤ length l.text;
  text : KeepsText l.text l.rest;
}

abbrev pub decreases-loop-blank : goal.decreases-loop-blank
decreases-loop-blank l = length l.rest
