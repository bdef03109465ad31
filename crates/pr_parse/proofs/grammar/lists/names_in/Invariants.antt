use Rattle.std.proofs.Common.{◌≤◌, length}
use Rattle.pr_forms.specs.Form.{rule}
use Rattle.pr_parse.specs.Grammar.{Labels}
use Rattle.pr_parse.specs.private.GrammarReader.{HasNames}
use Rattle.pr_parse.proofs.grammar.lists.names_in.Given as goal

abbrev pub invariant-loop-place : goal.invariant-loop-place
invariant-loop-place l = record {
  list : HasNames (rule Labels) l.tokens l.found.items (rule Labels) l.rest;
  shorter : length l.rest ≤ length l.tokens;
}

abbrev pub decreases-loop-place : goal.decreases-loop-place
decreases-loop-place l = length l.rest
