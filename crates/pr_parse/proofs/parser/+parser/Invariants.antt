use Rattle.std.proofs.Common.{◌<◌, length, ◌+◌, ◌*◌}
use Rattle.pr_forms.specs.Form.{rule, turns}
use Rattle.pr_forms.specs.Language.{Leads}
use Rattle.pr_ast.specs.Tree.{trees_of}
use Rattle.pr_parse.specs.Grammar.{Binary, Arguments, joined, argument, arguments, right_side, next_argument}
use Rattle.pr_parse.specs.GrammarTable.{queries}
use Rattle.pr_parse.specs.private.Reader.{value_of, rank_of}
use Rattle.pr_parse.proofs.parser.+parser.Given as goal

abbrev pub decreases-aggregation_at : goal.decreases-aggregation_at
decreases-aggregation_at l = 24 * length l.tokens.now + 2

abbrev pub decreases-arguments_at : goal.decreases-arguments_at
decreases-arguments_at l = 24 * length l.tokens.now + 24

abbrev pub decreases-binary_at : goal.decreases-binary_at
decreases-binary_at l = 24 * length l.tokens.now + rank_of l.level + 1

abbrev pub decreases-group_at : goal.decreases-group_at
decreases-group_at l = 24 * length l.tokens.now + 24

abbrev pub decreases-operand_at : goal.decreases-operand_at
decreases-operand_at l = 24 * length l.tokens.now + 2

abbrev pub decreases-parameter_at : goal.decreases-parameter_at
decreases-parameter_at l = 24 * length l.tokens.now + 24

abbrev pub decreases-parameters_at : goal.decreases-parameters_at
decreases-parameters_at l = 24 * length l.tokens.now + 1

abbrev pub decreases-postfix_at : goal.decreases-postfix_at
decreases-postfix_at l = 24 * length l.tokens.now + 3

abbrev pub decreases-tail_at : goal.decreases-tail_at
decreases-tail_at l = 24 * length l.tokens.now + 1

abbrev pub decreases-tighter_at : goal.decreases-tighter_at
decreases-tighter_at l = 24 * length l.tokens.now + rank_of l.level

abbrev pub decreases-unary_at : goal.decreases-unary_at
decreases-unary_at l = 24 * length l.tokens.now + 4

abbrev pub invariant-arguments_at-loop-comma : goal.invariant-arguments_at-loop-comma
invariant-arguments_at-loop-comma l = record {
  leads : Leads queries (rule Arguments) l.tokens (turns argument (arguments (trees_of l.args.items)) next_argument) l.rest;
  shorter : length l.rest < length l.tokens;
}

abbrev pub decreases-arguments_at-loop-comma : goal.decreases-arguments_at-loop-comma
decreases-arguments_at-loop-comma l = length l.rest

abbrev pub invariant-binary_at-loop-op : goal.invariant-binary_at-loop-op
invariant-binary_at-loop-op l = record {
  leads : Leads queries (rule (Binary l.level l.opens)) l.tokens (turns joined (value_of l.left) (right_side l.level)) l.rest;
  shorter : length l.rest < length l.tokens;
}

abbrev pub decreases-binary_at-loop-op : goal.decreases-binary_at-loop-op
decreases-binary_at-loop-op l = length l.rest
