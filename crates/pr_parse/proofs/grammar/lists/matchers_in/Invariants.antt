use Rattle.std.proofs.Common.{◌≤◌, length}
use Rattle.pr_forms.specs.Form.{rule}
use Rattle.pr_parse.specs.Grammar.{Matchers}
use Rattle.pr_parse.specs.private.GrammarReader.{HasMatchers}
use Rattle.pr_parse.proofs.grammar.lists.matchers_in.Given as goal

abbrev pub invariant-loop-place : goal.invariant-loop-place
invariant-loop-place l = record {
  list : HasMatchers (rule (Matchers l.named)) l.tokens l.found.items (rule (Matchers l.named)) l.rest;
  shorter : length l.rest ≤ length l.tokens;
}

abbrev pub decreases-loop-place : goal.decreases-loop-place
decreases-loop-place l = length l.rest
