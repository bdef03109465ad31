use Rattle.std.proofs.Common.{◌≡◌, sym, ◌∙◌, ap, arith, [], ◌∷◌, ◌++◌}
use Rattle.std.proofs.lemmas.Result.{MatchResult-weaker}
use Rattle.pr_forms.specs.Form.{rule}
use Rattle.pr_forms.specs.Run.{run_rule, run_base, run_pair, run_first, run_second, run_right, run_left, run_nothing}
use Rattle.pr_forms.proofs.Ways.{exit, fails, value_is, take_side, take_side_bad, other_side}
use Rattle.pr_forms.proofs.Carrying.{carry_on, carry_rule, carry_left, carry_base, turns_value, turns_go_on, turn_fails}
use Rattle.test_forms.specs.private.Tree.{seen, tree_of, trees_of, more, none, number}
use Rattle.test_forms.specs.private.Grammar.{production, table, part, at, word, turn, arguments, closed, alone, joined, negated_by, opened_by, closed_by, called, tighter, Binary, Unary, Primary, Tail, Arguments}
use Rattle.test_forms.specs.private.Reader.{value_of, group}
use Rattle.test_forms.specs.declared.parser.Level.TheVariants.{Sum}
use Rattle.test_forms.proofs.Ways.{primary_number, primary_name, primary_name_bad, primary_open, primary_open_bad, primary_end, primary_sign, trees_of-push}
use Rattle.test_forms.proofs.parser.+parser.Goals as goal

pub binary_at-returns-in_err-right-clause-read : goal.binary_at-returns-in_err-right-clause-read
binary_at-returns-in_err-right-clause-read t c =
    exit seen production table _ (rule (tighter c.args.level)) (rule (Binary c.args.level)) (seen c.in-Some.following.now) _ _ c.in_err-right.field-0.0 c.from_residual-in_err-right.ensures.1
    (λ r h. turn_fails c.loop-operator.invariant.leads c.in-Some.ensures.read h) c.in_err-right.ensures.read

pub binary_at-loop-operator-preserved : goal.binary_at-loop-operator-preserved
binary_at-loop-operator-preserved t c = record {
  leads = turns_value (joined (value_of c.loop-operator.left) (turn c.in-Some.operator c.in_ok-right.right.place (tree_of c.in_ok-right.right.expr))) (value_of c.in_ok-left-2.left) c.in_ok-left-2.ensures
      (turns_go_on c.loop-operator.invariant.leads c.in-Some.ensures.read c.in_ok-right.ensures.read);
  shorter = omega (arith, c.in_ok-right.ensures.shorter, c.in-Some.ensures.shorter, c.loop-operator.invariant.shorter);
}

pub unary_at-returns-in_err-inner-in-Some-clause-read : goal.unary_at-returns-in_err-inner-in-Some-clause-read
unary_at-returns-in_err-inner-in-Some-clause-read t c =
    exit seen production table _ (rule Unary) (rule Unary) (seen c.in-Some.following.now) _ _ c.in_err-inner-in-Some.field-0.0 c.from_residual.ensures.1
    (λ r h. run_rule (take_side_bad c.in-Some.ensures.read h)) c.in_err-inner-in-Some.ensures.read

pub unary_at-returns-in_ok-negation-in-Some-clause-read : goal.unary_at-returns-in_ok-negation-in-Some-clause-read
unary_at-returns-in_ok-negation-in-Some-clause-read t c =
    value_is (negated_by (at c.in-Some.sign) (value_of c.in_ok-inner-in-Some.inner)) (value_of c.in_ok-negation-in-Some.field-0) c.in_ok-negation-in-Some.ensures
    (run_rule (take_side c.in-Some.ensures.read c.in_ok-inner-in-Some.ensures.read))

pub group_at-returns-in-Some-clause-read : goal.group_at-returns-in-Some-clause-read
group_at-returns-in-Some-clause-read t c = (
  closed_by (value_of c.in_ok-inner.inner) (at c.in-Some.close),
  run_pair c.in_ok-inner.ensures.read c.in-Some.ensures.read.gives,
  ap (λ p. part p (tree_of c.in_ok-inner.inner.expr)) c.through-place.ensures,
)

pub name_at-returns-in_default-clause-read : goal.name_at-returns-in_default-clause-read
name_at-returns-in_default-clause-read t c = (alone, run_rule (other_side c.in_default.ensures.read run_nothing), c.in_ok-named.ensures)

pub name_at-returns-in_err-list-clause-read : goal.name_at-returns-in_err-list-clause-read
name_at-returns-in_err-list-clause-read t c =
    exit seen production table _ (rule Arguments) (rule Tail) (seen c.in-Some.following.now) _ _ c.in_err-list.field-0.0 c.from_residual-in_err-list.ensures.1
    (λ r h. run_rule (take_side_bad c.in-Some.ensures.read (run_first h))) c.in_err-list.ensures.read

pub arguments_at-returns-then-not-starts_argument-clause-read : goal.arguments_at-returns-then-not-starts_argument-clause-read
arguments_at-returns-then-not-starts_argument-clause-read t c =
    value_is (arguments none) (arguments (trees_of c.new-list.result.items)) (ap (λ x. arguments (trees_of x)) c.new-list.ensures.items)
    (run_rule (run_right (sym c.starts_argument.ensures ∙ c.if-not-starts_argument.true) run_nothing))

pub arguments_at-returns-in_err-first-clause-read : goal.arguments_at-returns-in_err-first-clause-read
arguments_at-returns-in_err-first-clause-read t c =
    exit seen production table _ (rule (Binary Sum)) (rule Arguments) (seen c.args.tokens.now) _ _ c.in_err-first.field-0.0 c.from_residual.ensures.1
    (λ r h. run_rule (run_left (sym c.starts_argument.ensures ∙ c.if-not-starts_argument.false) (run_base (run_second run_nothing h)))) c.in_err-first.ensures.read

pub arguments_at-loop-comma-init : goal.arguments_at-loop-comma-init
arguments_at-loop-comma-init t c =
    let grown : trees_of c.push.new.self.items ≡ more none (tree_of c.in_ok-first.first.expr) = ap trees_of (c.in_ok-push.ensures.items ∙ ap (λ xs. xs ++ c.in_ok-first.first.expr ∷ []) c.new-list.ensures.items) in
    record {
      leads = turns_value (arguments (more none (tree_of c.in_ok-first.first.expr))) (arguments (trees_of c.push.new.self.items)) (ap arguments grown)
          (carry_on carry_rule (carry_on (carry_left (sym c.starts_argument.ensures ∙ c.if-not-starts_argument.false)) (carry_base (run_pair run_nothing c.in_ok-first.ensures.read))));
      shorter = c.in_ok-first.ensures.shorter;
    }

pub arguments_at-returns-in_err-next-clause-read : goal.arguments_at-returns-in_err-next-clause-read
arguments_at-returns-in_err-next-clause-read t c =
    exit seen production table _ (rule (Binary Sum)) (rule Arguments) (seen c.in-Some.following.now) _ _ c.in_err-next.field-0.0 c.from_residual-in_err-next.ensures.1
    (λ r h. turn_fails c.loop-comma.invariant.leads c.in-Some.ensures.read h) c.in_err-next.ensures.read

pub arguments_at-loop-comma-preserved : goal.arguments_at-loop-comma-preserved
arguments_at-loop-comma-preserved t c =
    let grown : trees_of c.push-in-Some.new.self.items ≡ more (trees_of c.loop-comma.list.items) (tree_of c.in_ok-next.next.expr) = ap trees_of c.in_ok-push-2.ensures.items ∙ trees_of-push c.loop-comma.list.items c.in_ok-next.next.expr in
    record {
      leads = turns_value (arguments (more (trees_of c.loop-comma.list.items) (tree_of c.in_ok-next.next.expr))) (arguments (trees_of c.push-in-Some.new.self.items)) (ap arguments grown)
          (turns_go_on c.loop-comma.invariant.leads c.in-Some.ensures.read c.in_ok-next.ensures.read);
      shorter = omega (arith, c.in_ok-next.ensures.shorter, c.in-Some.ensures.shorter, c.loop-comma.invariant.shorter);
    }

pub name_at-returns-in_ok-call_made-in-Some-after-clause-read : goal.name_at-returns-in_ok-call_made-in-Some-after-clause-read
name_at-returns-in_ok-call_made-in-Some-after-clause-read t c = (
  closed c.in-Some-after.close (trees_of c.in_ok-list.list.items),
  run_rule (take_side c.in-Some.ensures.read (run_pair c.in_ok-list.ensures.read c.in-Some-after.ensures.read.gives)),
  c.in_ok-call_made-in-Some-after.ensures,
)

pub name_at-returns-in-None-clause-read : goal.name_at-returns-in-None-clause-read
name_at-returns-in-None-clause-read t c = run_rule (take_side_bad c.in-Some.ensures.read (run_second c.in_ok-list.ensures.read c.in-None.ensures.read.gives))

pub primary_at-returns-in-Some-clause-read : goal.primary_at-returns-in-Some-clause-read
primary_at-returns-in-Some-clause-read t c =
    MatchResult-weaker c.group_at.result c.group_at.ensures.read
    (λ x h. value_is (opened_by (at c.in-Some.opening) h.0) (value_of x.0) h.2 (primary_open _ c.in-Some.following.now _ c.in-Some.opening h.0 c.in-Some.ensures.read h.1))
    (λ e. fails seen production table group (rule Primary) _ _ e (λ r h. primary_open_bad _ c.in-Some.following.now _ c.in-Some.opening c.in-Some.ensures.read h))

pub primary_at-returns-in_default-split_first-clause-read : goal.primary_at-returns-in_default-split_first-clause-read
primary_at-returns-in_default-split_first-clause-read t c = primary_end _ c.in_default-split_first.ensures.cases

pub primary_at-returns-in-Number-clause-read : goal.primary_at-returns-in-Number-clause-read
primary_at-returns-in-Number-clause-read t c =
    let first = c.in-Some-split_first.first.now in
    value_is (part first.place (number first.place c.in-Number.value)) (value_of c.numbered.result) c.numbered.ensures
    (primary_number _ _ first c.in-Number.value c.in-Some-split_first.ensures.cases.0 c.in-Number.is)

pub primary_at-returns-in-Name-clause-read : goal.primary_at-returns-in-Name-clause-read
primary_at-returns-in-Name-clause-read t c =
    let first = c.in-Some-split_first.first.now in
    MatchResult-weaker c.name_at.result c.name_at.ensures.read
    (λ x h. value_is (called (word first.place c.as_str.result.now) h.0) (value_of x.0) h.2
    (primary_name _ c.in-Some-split_first.rest.now _ first c.in-Name.text c.as_str.result.now h.0 c.in-Some-split_first.ensures.cases.0 c.in-Name.is c.as_str.ensures.value h.1))
    (λ e. fails seen production table (rule Tail) (rule Primary) _ _ e
    (λ r h. primary_name_bad _ c.in-Some-split_first.rest.now _ first c.in-Name.text c.in-Some-split_first.ensures.cases.0 c.in-Name.is h))

pub primary_at-returns-in-Sign-clause-read : goal.primary_at-returns-in-Sign-clause-read
primary_at-returns-in-Sign-clause-read t c = primary_sign _ _ c.in-Some-split_first.first.now _ c.in-Some-split_first.ensures.cases.0 c.in-Sign.is c.in_default.ensures.read
