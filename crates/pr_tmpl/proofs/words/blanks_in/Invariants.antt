use Rattle.std.proofs.Common.{◌≤◌, length}
use Rattle.pr_labels.specs.pr_words.private.Reader.{KeepsText}
use Rattle.pr_tmpl.specs.TemplateText.{blanks}
use Rattle.pr_tmpl.specs.private.Reader.{Leads}
use Rattle.pr_tmpl.proofs.words.blanks_in.Given as goal

abbrev pub invariant-loop-after : goal.invariant-loop-after
invariant-loop-after l = record { leads : Leads blanks l.text blanks l.rest; shorter : length l.rest ≤ length l.text; text : KeepsText l.text l.rest }

abbrev pub decreases-loop-after : goal.decreases-loop-after
decreases-loop-after l = length l.rest
