use Rattle.std.proofs.Common.{◌<◌, length, ◌+◌, ◌*◌}
use Rattle.pr_forms.specs.Form.{rule, turns}
use Rattle.test_forms.specs.private.Tree.{trees_of}
use Rattle.test_forms.specs.private.Grammar.{Binary, Arguments, joined, argument, arguments, operand, next_argument}
use Rattle.pr_forms.specs.Language.{Leads}
use Rattle.test_forms.specs.private.Reader.{sums, value_of, rank_of}
use Rattle.test_forms.proofs.parser.+parser.Given as goal

abbrev pub decreases-arguments_at : goal.decreases-arguments_at
decreases-arguments_at l = 8 * length l.tokens.now + 8

abbrev pub decreases-binary_at : goal.decreases-binary_at
decreases-binary_at l = 8 * length l.tokens.now + rank_of l.level + 1

abbrev pub decreases-group_at : goal.decreases-group_at
decreases-group_at l = 8 * length l.tokens.now + 8

abbrev pub decreases-name_at : goal.decreases-name_at
decreases-name_at l = 8 * length l.tokens.now + 1

abbrev pub decreases-primary_at : goal.decreases-primary_at
decreases-primary_at l = 8 * length l.tokens.now + 1

abbrev pub decreases-tighter_at : goal.decreases-tighter_at
decreases-tighter_at l = 8 * length l.tokens.now + rank_of l.level

abbrev pub decreases-unary_at : goal.decreases-unary_at
decreases-unary_at l = 8 * length l.tokens.now + 2

abbrev pub invariant-arguments_at-loop-comma : goal.invariant-arguments_at-loop-comma
invariant-arguments_at-loop-comma l = record {
  leads : Leads sums (rule Arguments) l.tokens (turns argument (arguments (trees_of l.list.items)) next_argument) l.rest;
  shorter : length l.rest < length l.tokens;
}

abbrev pub decreases-arguments_at-loop-comma : goal.decreases-arguments_at-loop-comma
decreases-arguments_at-loop-comma l = length l.rest

abbrev pub invariant-binary_at-loop-operator : goal.invariant-binary_at-loop-operator
invariant-binary_at-loop-operator l = record {
  leads : Leads sums (rule (Binary l.level)) l.tokens (turns joined (value_of l.left) (operand l.level)) l.rest;
  shorter : length l.rest < length l.tokens;
}

abbrev pub decreases-binary_at-loop-operator : goal.decreases-binary_at-loop-operator
decreases-binary_at-loop-operator l = length l.rest
