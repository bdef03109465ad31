use Rattle.std.proofs.Common.{◌≤◌, length}
use Rattle.std.specs.Prelude.{IsTrue}
use Rattle.pr_labels.specs.pr_words.private.Reader.{KeepsText}
use Rattle.pr_tmpl.specs.private.Letters.{are_ascii}
use Rattle.pr_tmpl.proofs.WordWays.{Spells}
use Rattle.pr_tmpl.proofs.words.word_in.Given as goal

abbrev pub invariant-loop-wanted : goal.invariant-loop-wanted
invariant-loop-wanted l = record { spells : Spells l.word l.text l.left l.rest; shorter : length l.rest ≤ length l.text; small : IsTrue (are_ascii l.left); text : KeepsText l.text l.rest }

abbrev pub decreases-loop-wanted : goal.decreases-loop-wanted
decreases-loop-wanted l = length l.left
