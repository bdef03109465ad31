use Rattle.std.proofs.Common.{◌≡◌, Some, None, true, false, [], ◌∷◌, ◌++◌, refl, ap, sym, ◌∙◌, arith}
use Rattle.std.proofs.lemmas.Result.{MatchResult-weaker}
use Rattle.pr_forms.specs.Form.{rule}
use Rattle.pr_forms.specs.Run.{run_rule, run_pair, run_first, run_second, run_nothing, run_left, run_right, run_base}
use Rattle.pr_forms.proofs.Ways.{fails, exit, value_is, take_side, take_side_bad, other_side}
use Rattle.pr_forms.proofs.Carrying.{carry_on, carry_rule, carry_left, carry_base, turns_value, turns_go_on, turn_fails}
use Rattle.pr_ast.specs.Tree.{aggregate, more, none, tree_of, trees_of}
use Rattle.pr_parse.specs.declared.grammar.kind.Before.TheVariants.{Other as Others}
use Rattle.pr_parse.specs.Seen.{seen}
use Rattle.pr_parse.specs.Grammar.{production, expression, Binary, Modified, Postfix, Operand, Selection, Tail, Arguments, Aggregation, Parameters, After, tighter, enclosed, parameters, part, at, word, turned, operation, operand, joined, closed_by, opened_by, signed, signed_by, applied, suffixes, named, selection, function, function_called, called, arguments, argument, closed, parameter, bare, aggregation, aggregation_made, aggregator, grouping_by, through}
use Rattle.pr_parse.specs.GrammarTable.{table}
use Rattle.pr_parse.specs.private.Reader.{value_of, parameters_of}
use Rattle.pr_parse.proofs.Ways.{take_nested, nested_first_bad, nested_bad, skip_nested}
use Rattle.pr_parse.proofs.Reading.{group_good, group_first_bad, group_bad}
use Rattle.pr_ast.proofs.Args.{trees_of-push}
use Rattle.pr_parse.proofs.parser.+parser.Goals as goal

pub binary_at-returns-in_err-modifiers-clause-read : goal.binary_at-returns-in_err-modifiers-clause-read
binary_at-returns-in_err-modifiers-clause-read t c =
    exit seen production table _ (rule (Modified c.args.level)) (rule (Binary c.args.level c.args.opens)) (seen c.in-Some.following.now) _ _ c.in_err-modifiers.field-0.0 c.from_residual-in_err-modifiers.ensures.1
    (λ r h. turn_fails c.loop-op.invariant.leads c.in-Some.ensures.read h) (c.in_err-modifiers.ensures.read c.args.level)

pub binary_at-returns-in_err-right-clause-read : goal.binary_at-returns-in_err-right-clause-read
binary_at-returns-in_err-right-clause-read t c =
    exit seen production table _ (rule (tighter c.args.level c.in_ok-modifiers.modifiers.opens)) (rule (Binary c.args.level c.args.opens)) (seen c.in_ok-modifiers.after_modifiers.now) _ _ c.in_err-right.field-0.0 c.from_residual-in_err-right.ensures.1
    (λ r h. turn_fails c.loop-op.invariant.leads c.in-Some.ensures.read ((c.in_ok-modifiers.ensures.read c.args.level).fails r h)) c.in_err-right.ensures.read

pub binary_at-loop-op-preserved : goal.binary_at-loop-op-preserved
binary_at-loop-op-preserved t c = record {
  leads = turns_value (joined (value_of c.loop-op.left) (turned (operation c.in-Some.op) (operand c.in_ok-modifiers.modifiers.with_bool c.in_ok-modifiers.modifiers.matching c.in_ok-right.right.place (tree_of c.in_ok-right.right.expr))))
      (value_of c.in_ok-left-2.left) c.in_ok-left-2.ensures
      (turns_go_on c.loop-op.invariant.leads c.in-Some.ensures.read ((c.in_ok-modifiers.ensures.read c.args.level).reads (c.in_ok-right.right.place, tree_of c.in_ok-right.right.expr) _ c.in_ok-right.ensures.read));
  shorter = omega (arith, c.in_ok-right.ensures.shorter, c.in_ok-modifiers.ensures.shorter, c.in-Some.ensures.shorter, c.loop-op.invariant.shorter);
}

pub group_at-returns-in-Some-clause-read : goal.group_at-returns-in-Some-clause-read
group_at-returns-in-Some-clause-read t c = (closed_by (value_of c.in_ok-inner.inner) (at c.in-Some.close), run_pair c.in_ok-inner.ensures.read c.in-Some.ensures.read.gives, c.enclosed.ensures)

pub postfix_at-returns-in_err-whole-in-Some-clause-read : goal.postfix_at-returns-in_err-whole-in-Some-clause-read
postfix_at-returns-in_err-whole-in-Some-clause-read t c =
    exit seen production table _ enclosed (rule (Postfix c.args.opens)) (seen c.in-Some.following.now) _ _ c.in_err-whole-in-Some.field-0.0 c.from_residual.ensures.1
    (λ r h. group_first_bad c.args.opens _ c.in-Some.following.now r c.in-Some.opening c.if-not-opens.false c.in-Some.ensures.read h) c.in_err-whole-in-Some.ensures.read

pub postfix_at-returns-in_ok-whole-in-Some-clause-read : goal.postfix_at-returns-in_ok-whole-in-Some-clause-read
postfix_at-returns-in_ok-whole-in-Some-clause-read t c =
    let w = c.in_ok-whole-in-Some.ensures.read in
    MatchResult-weaker c.after_other.result c.after_other.ensures.read
    (λ x h. value_is (applied (opened_by (at c.in-Some.opening) w.0) (suffixes h.0)) (value_of x.0) (h.2 ∙ ap (λ v. applied v (suffixes h.0)) w.2)
    (group_good c.args.opens _ c.in-Some.following.now c.in_ok-whole-in-Some.rest.now _ c.in-Some.opening w.0 h.0 c.if-not-opens.false c.in-Some.ensures.read w.1 h.1))
    (λ e. fails seen production table (rule (After Others)) (rule (Postfix c.args.opens)) _ _ e (λ r h. group_bad c.args.opens _ c.in-Some.following.now c.in_ok-whole-in-Some.rest.now r c.in-Some.opening w.0 c.if-not-opens.false c.in-Some.ensures.read w.1 h))

pub operand_at-returns-in-Some-clause-read : goal.operand_at-returns-in-Some-clause-read
operand_at-returns-in-Some-clause-read t c =
    let literal = rw c.in-Some.is at c.in_ok-found.ensures.read in
    MatchResult-weaker c.after_other.result c.after_other.ensures.read
    (λ x h. value_is (applied (value_of c.in-Some.literal) (suffixes h.0)) (value_of x.0) h.2 (run_rule (take_side literal h.1)))
    (λ e. fails seen production table (rule (After Others)) (rule Operand) _ _ e (λ r h. run_rule (take_side_bad literal h)))

pub operand_at-returns-in-Some-metric_in-clause-read : goal.operand_at-returns-in-Some-metric_in-clause-read
operand_at-returns-in-Some-metric_in-clause-read t c =
    let no_literal = rw c.in_default.is at c.in_ok-found.ensures.read in
    MatchResult-weaker c.selection_in.result c.selection_in.ensures.read
    (λ x h. value_is (named (word c.in-Some-metric_in.name c.in-Some-metric_in.text.now) (selection h.0 h.1.0)) (value_of x.0) h.1.1.1
    (run_rule (other_side no_literal (take_side c.in-Some-metric_in.ensures.read h.1.1.0))))
    (λ e. fails seen production table (rule Selection) (rule Operand) _ _ e (λ r h. run_rule (other_side no_literal (take_side_bad c.in-Some-metric_in.ensures.read h))))

pub operand_at-returns-in-Some-function_in-clause-read : goal.operand_at-returns-in-Some-function_in-clause-read
operand_at-returns-in-Some-function_in-clause-read t c =
    let no_literal = rw c.in_default.is at c.in_ok-found.ensures.read in
    MatchResult-weaker c.tail_at.result c.tail_at.ensures.read
    (λ x h. value_is (function_called (function c.in-Some-function_in.func c.in-Some-function_in.name c.in-Some-function_in.text.now) h.0) (value_of x.0) h.2
    (run_rule (other_side no_literal (other_side c.in_default-metric_in.ensures.read (take_side c.in-Some-function_in.ensures.read h.1)))))
    (λ e. fails seen production table (rule Tail) (rule Operand) _ _ e (λ r h. run_rule (other_side no_literal (other_side c.in_default-metric_in.ensures.read (take_side_bad c.in-Some-function_in.ensures.read h)))))

pub operand_at-returns-in_ok-whole-in-Some-aggregate_in-clause-read : goal.operand_at-returns-in_ok-whole-in-Some-aggregate_in-clause-read
operand_at-returns-in_ok-whole-in-Some-aggregate_in-clause-read t c =
    let no_literal = rw c.in_default.is at c.in_ok-found.ensures.read in
    let w = c.in_ok-whole-in-Some-aggregate_in.ensures.read in
    MatchResult-weaker c.after_other-in-Some-aggregate_in.result c.after_other-in-Some-aggregate_in.ensures.read
    (λ x h. value_is (applied (aggregation_made (aggregator c.in-Some-aggregate_in.op c.in-Some-aggregate_in.name) w.0) (suffixes h.0)) (value_of x.0) (h.2 ∙ ap (λ v. applied v (suffixes h.0)) w.2)
    (run_rule (other_side no_literal (other_side c.in_default-metric_in.ensures.read (other_side c.in_default-function_in.ensures.read (take_nested c.in-Some-aggregate_in.ensures.read w.1 h.1))))))
    (λ e. fails seen production table (rule (After Others)) (rule Operand) _ _ e (λ r h. run_rule (other_side no_literal (other_side c.in_default-metric_in.ensures.read (other_side c.in_default-function_in.ensures.read (nested_bad c.in-Some-aggregate_in.ensures.read w.1 h))))))

pub tail_at-returns-in_default-clause-read : goal.tail_at-returns-in_default-clause-read
tail_at-returns-in_default-clause-read t c =
    MatchResult-weaker c.selection_in.result c.selection_in.ensures.read
    (λ x h. (selection h.0 h.1.0, run_rule (other_side c.in_default.ensures.read h.1.1.0), h.1.1.1))
    (λ e. fails seen production table (rule Selection) (rule Tail) _ _ e (λ r h. run_rule (other_side c.in_default.ensures.read h)))

pub tail_at-returns-in_err-args-clause-read : goal.tail_at-returns-in_err-args-clause-read
tail_at-returns-in_err-args-clause-read t c =
    exit seen production table _ (rule Arguments) (rule Tail) (seen c.in-Some.following.now) _ _ c.in_err-args.field-0.0 c.from_residual.ensures.1
    (λ r h. run_rule (take_side_bad c.in-Some.ensures.read (run_first (run_first h)))) c.in_err-args.ensures.read

pub tail_at-returns-in-Some-after-clause-read : goal.tail_at-returns-in-Some-after-clause-read
tail_at-returns-in-Some-after-clause-read t c =
    MatchResult-weaker c.after_other.result c.after_other.ensures.read
    (λ x h. (called (trees_of c.in_ok-args.args.items) c.in-Some-after.close h.0, run_rule (take_side c.in-Some.ensures.read (run_pair (run_pair c.in_ok-args.ensures.read c.in-Some-after.ensures.read.gives) h.1)), h.2 ∙ ap (λ v. applied v (suffixes h.0)) c.call_made.ensures))
    (λ e. fails seen production table (rule (After Others)) (rule Tail) _ _ e (λ r h. run_rule (take_side_bad c.in-Some.ensures.read (run_second (run_pair c.in_ok-args.ensures.read c.in-Some-after.ensures.read.gives) h))))

pub tail_at-returns-in-None-clause-read : goal.tail_at-returns-in-None-clause-read
tail_at-returns-in-None-clause-read t c = run_rule (take_side_bad c.in-Some.ensures.read (run_first (run_second c.in_ok-args.ensures.read c.in-None.ensures.read.gives)))

pub parameter_at-returns-in_err-second-in-Some-clause-read : goal.parameter_at-returns-in_err-second-in-Some-clause-read
parameter_at-returns-in_err-second-in-Some-clause-read t c =
    exit seen production table _ (rule expression) (rule Parameters) (seen c.in-Some.after_comma.now) _ _ c.in_err-second-in-Some.field-0.0 c.from_residual-in_err-second-in-Some.ensures.1
    (λ r h. run_rule (run_second c.in_ok-first.ensures.read (take_side_bad c.in-Some.ensures.read h))) c.in_err-second-in-Some.ensures.read

pub parameter_at-returns-in_ok-two_parameters-in-Some-clause-read : goal.parameter_at-returns-in_ok-two_parameters-in-Some-clause-read
parameter_at-returns-in_ok-two_parameters-in-Some-clause-read t c =
    value_is (parameter (value_of c.in_ok-first.first) (value_of c.in_ok-second-in-Some.second)) (arguments (parameters_of c.in_ok-two_parameters-in-Some.field-0)) c.in_ok-two_parameters-in-Some.ensures
    (run_rule (run_pair c.in_ok-first.ensures.read (take_side c.in-Some.ensures.read c.in_ok-second-in-Some.ensures.read)))

pub parameter_at-returns-in_ok-one_parameter-in-None-clause-read : goal.parameter_at-returns-in_ok-one_parameter-in-None-clause-read
parameter_at-returns-in_ok-one_parameter-in-None-clause-read t c =
    value_is (parameter (value_of c.in_ok-first.first) bare) (arguments (parameters_of c.in_ok-one_parameter-in-None.field-0)) c.in_ok-one_parameter-in-None.ensures
    (run_rule (run_pair c.in_ok-first.ensures.read (other_side c.in-None.ensures.read run_nothing)))

pub parameters_at-returns-in_err-found-clause-read : goal.parameters_at-returns-in_err-found-clause-read
parameters_at-returns-in_err-found-clause-read t c =
    exit seen production table _ (rule Parameters) parameters (seen c.in-Some.following.now) _ _ c.in_err-found.field-0.0 c.from_residual.ensures.1
    (λ r h. run_second c.in-Some.ensures.read.gives (run_first h)) c.in_err-found.ensures.read

pub parameters_at-returns-in-Some-after-clause-read : goal.parameters_at-returns-in-Some-after-clause-read
parameters_at-returns-in-Some-after-clause-read t c = run_pair c.in-Some.ensures.read.gives (run_pair c.in_ok-found.ensures.read c.in-Some-after.ensures.read.gives)

pub parameters_at-returns-in-None-clause-read : goal.parameters_at-returns-in-None-clause-read
parameters_at-returns-in-None-clause-read t c = run_second c.in-Some.ensures.read.gives (run_second c.in_ok-found.ensures.read c.in-None.ensures.read.gives)

pub aggregation_at-returns-in_ok-parameters-in-Some-clause-read : goal.aggregation_at-returns-in_ok-parameters-in-Some-clause-read
aggregation_at-returns-in_ok-parameters-in-Some-clause-read t c = (
  aggregation (grouping_by c.in-Some.by c.in_ok-found-in-Some.found) (parameters_of c.in_ok-parameters-in-Some.parameters) c.in_ok-parameters-in-Some.end,
  run_rule (take_nested c.in-Some.ensures.read c.in_ok-found-in-Some.ensures.read c.in_ok-parameters-in-Some.ensures.read),
  c.aggregate_made.ensures,
)

pub aggregation_at-returns-in_ok-found-in-Some-grouping_in-clause-read : goal.aggregation_at-returns-in_ok-found-in-Some-grouping_in-clause-read
aggregation_at-returns-in_ok-found-in-Some-grouping_in-clause-read t c = (
  aggregation (grouping_by c.in-Some-grouping_in.by c.in_ok-found-in-Some-grouping_in.found) (parameters_of c.in_ok-parameters-in-None.parameters) c.in_ok-found-in-Some-grouping_in.end,
  run_rule (skip_nested c.in-None.ensures.read (run_pair c.in_ok-parameters-in-None.ensures.read (take_side c.in-Some-grouping_in.ensures.read c.in_ok-found-in-Some-grouping_in.ensures.read))),
  c.aggregate_made-in-Some-grouping_in.ensures,
)

pub aggregation_at-returns-in-None-grouping_in-clause-read : goal.aggregation_at-returns-in-None-grouping_in-clause-read
aggregation_at-returns-in-None-grouping_in-clause-read t c =
    let q = through c.args.name c.in_ok-parameters-in-None.close in (
      aggregation (grouping_by true []) (parameters_of c.in_ok-parameters-in-None.parameters) c.in_ok-parameters-in-None.close,
      run_rule (skip_nested c.in-None.ensures.read (run_pair c.in_ok-parameters-in-None.ensures.read (other_side c.in-None-grouping_in.ensures.read run_nothing))),
      c.aggregate_made-in-None-grouping_in.ensures ∙ ap (λ ns. part q (aggregate q c.args.op (grouping_by true ns) (parameters_of c.in_ok-parameters-in-None.parameters))) c.empty.ensures,
    )

pub arguments_at-returns-then-not-starts_argument-clause-read : goal.arguments_at-returns-then-not-starts_argument-clause-read
arguments_at-returns-then-not-starts_argument-clause-read t c =
    value_is (arguments none) (arguments (trees_of c.new-args.result.items)) (ap (λ x. arguments (trees_of x)) c.new-args.ensures.items)
    (run_rule (run_right (sym c.starts_argument.ensures ∙ c.if-not-starts_argument.true) run_nothing))

pub arguments_at-returns-in_err-first-clause-read : goal.arguments_at-returns-in_err-first-clause-read
arguments_at-returns-in_err-first-clause-read t c =
    exit seen production table _ (rule expression) (rule Arguments) (seen c.args.tokens.now) _ _ c.in_err-first.field-0.0 c.from_residual.ensures.1
    (λ r h. run_rule (run_left (sym c.starts_argument.ensures ∙ c.if-not-starts_argument.false) (run_base (run_second run_nothing h)))) c.in_err-first.ensures.read

pub arguments_at-loop-comma-init : goal.arguments_at-loop-comma-init
arguments_at-loop-comma-init t c =
    let grown : trees_of c.push.new.self.items ≡ more none (tree_of c.in_ok-first.first.expr) = ap trees_of (c.in_ok-push.ensures.items ∙ ap (λ xs. xs ++ c.in_ok-first.first.expr ∷ []) c.new-args.ensures.items) in
    record {
      leads = turns_value (arguments (more none (tree_of c.in_ok-first.first.expr))) (arguments (trees_of c.push.new.self.items)) (ap arguments grown)
          (carry_on carry_rule (carry_on (carry_left (sym c.starts_argument.ensures ∙ c.if-not-starts_argument.false)) (carry_base (run_pair run_nothing c.in_ok-first.ensures.read))));
      shorter = c.in_ok-first.ensures.shorter;
    }

pub arguments_at-returns-in_err-next-clause-read : goal.arguments_at-returns-in_err-next-clause-read
arguments_at-returns-in_err-next-clause-read t c =
    exit seen production table _ (rule expression) (rule Arguments) (seen c.in-Some.following.now) _ _ c.in_err-next.field-0.0 c.from_residual-in_err-next.ensures.1
    (λ r h. turn_fails c.loop-comma.invariant.leads c.in-Some.ensures.read h) c.in_err-next.ensures.read

pub arguments_at-loop-comma-preserved : goal.arguments_at-loop-comma-preserved
arguments_at-loop-comma-preserved t c =
    let grown : trees_of c.push-in-Some.new.self.items ≡ more (trees_of c.loop-comma.args.items) (tree_of c.in_ok-next.next.expr) = ap trees_of c.in_ok-push-2.ensures.items ∙ trees_of-push c.loop-comma.args.items c.in_ok-next.next.expr in
    record {
      leads = turns_value (arguments (more (trees_of c.loop-comma.args.items) (tree_of c.in_ok-next.next.expr))) (arguments (trees_of c.push-in-Some.new.self.items)) (ap arguments grown)
          (turns_go_on c.loop-comma.invariant.leads c.in-Some.ensures.read c.in_ok-next.ensures.read);
      shorter = omega (arith, c.in_ok-next.ensures.shorter, c.in-Some.ensures.shorter, c.loop-comma.invariant.shorter);
    }

pub unary_at-returns-in_ok-sign_made-in-Some-clause-read : goal.unary_at-returns-in_ok-sign_made-in-Some-clause-read
unary_at-returns-in_ok-sign_made-in-Some-clause-read t c =
    value_is (signed_by (signed c.in-Some.minus c.in-Some.sign) (value_of c.in_ok-inner-in-Some.inner)) (value_of c.in_ok-sign_made-in-Some.field-0) c.in_ok-sign_made-in-Some.ensures
    (run_rule (take_side c.in-Some.ensures.read c.in_ok-inner-in-Some.ensures.read))
