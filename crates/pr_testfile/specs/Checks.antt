-- Checks of expressions.
use Rattle.std.specs.Prelude.{ℕ, List, ◌++◌, codes, Option, Some, None, option_and_then}
use Rattle.std.specs.Option.{option_map}
use Rattle.pr_num.specs.declared.value.Num.{Num}
use Rattle.pr_ast.specs.Tree.{Tree as Expression, tree_of}
use Rattle.pr_ast.specs.pr_labels.declared.item.Item.{Item}
use Rattle.pr_yaml.specs.Tree.{Tree, EntryTree}
use Rattle.pr_rulefile.specs.declared.fields.problem.Problem.{Problem}
use Rattle.pr_rulefile.specs.Nodes.{line_of, text_of, fields_of, field, written, text_or_empty, items_under}
use Rattle.pr_rulefile.specs.Scalars.{span_problems}
use Rattle.pr_rulefile.specs.Expressions.{by_written, tree_found, expression_value_problems}
use Rattle.pr_rulefile.specs.Maps.{required, map_problems, list_problems}
use Rattle.pr_testfile.specs.declared.fields.CheckField.{CheckField}
use Rattle.pr_testfile.specs.declared.fields.CheckField.TheVariants.{Expr, EvalTime, ExpSamples}
use Rattle.pr_testfile.specs.declared.tests.ExprCheck.{ExprCheck}
use Rattle.pr_testfile.specs.Fields.{check_field}
use Rattle.pr_testfile.specs.Samples.{sample_problems, samples_of}
use Rattle.pr_testfile.specs.Alerts.{time_under}

-- What is wrong with a check: its time and its expression have to be there, and an empty expression
-- is none.
abbrev pub check_missing : ℕ → List EntryTree → List Problem
check_missing line es = required line (codes "eval_time") (field (codes "eval_time") es) ++ required line (codes "expr") (written (codes "expr") es)

abbrev pub check_value_problems : CheckField → Tree → List Problem
check_value_problems Expr t = expression_value_problems t
check_value_problems EvalTime t = span_problems t
check_value_problems ExpSamples t = list_problems sample_problems t

abbrev pub check_fields : List ℕ → Option (Tree → List Problem)
check_fields key = option_map check_value_problems (check_field key)

abbrev pub check_problems : Tree → List Problem
check_problems = map_problems check_missing check_fields

-- An expression that is checked, and what it is to give.
pub record PlainCheck : Type 0 where
  pub time : ℕ
  pub text : List ℕ
  pub expr : Expression
  pub expected : List (Item Num)

abbrev pub plain_check : ExprCheck → PlainCheck
plain_check c = record { time = c.time; text = c.text; expr = tree_of c.expr; expected = c.expected }

unfoldable pub check_with : List EntryTree → Expression → PlainCheck
check_with es expr = record {
  time = time_under es;
  text = text_or_empty (written (codes "expr") es);
  expr = expr;
  expected = samples_of (items_under (field (codes "exp_samples") es));
}

-- A map is no check without an expression.
abbrev pub expr_in : Option Tree → Option Expression
expr_in None = None
expr_in (Some t) = tree_found (by_written (line_of t) (text_of t))

unfoldable pub check_in : List EntryTree → Option PlainCheck
check_in es = option_map (check_with es) (expr_in (written (codes "expr") es))

abbrev pub check_of : Tree → Option PlainCheck
check_of t = option_and_then check_in (fields_of t)
