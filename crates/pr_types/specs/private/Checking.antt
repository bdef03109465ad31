-- What is known of an expression that is checked.
use Rattle.std.specs.Prelude.{◌≡◌, ℕ, ◌≤◌, true, List, Result, Ok, Err, is_ok}
use Rattle.pr_match.specs.Matcher.{LabelTest}
use Rattle.pr_ast.specs.declared.tree.Expr.{Expr}
use Rattle.pr_ast.specs.Tree.{Tree}
use Rattle.pr_ast.specs.Reach.{reads_back}
use Rattle.pr_ast.specs.private.Steps.{has_steps}
use Rattle.pr_types.specs.declared.kind.ValueType.{ValueType}
use Rattle.pr_types.specs.declared.kind.TypeError.{TypeError}
use Rattle.pr_types.specs.declared.kind.TypeError.TheVariants.{Fault, Memory}
use Rattle.pr_types.specs.Signatures.{fault}
use Rattle.pr_types.specs.Typed.{typed, checked, kept}
use Rattle.pr_types.specs.private.Built.{tests_in, patterns_in}

-- what is kept of a tree that is checked: its type, the tests of its selectors, and its patterns
pub record IsChecked (t : Tree) (gives : ValueType) (tests : List (List LabelTest)) (patterns : List (List ℕ)) : Type 0 where
  pub checked_so : checked t ≡ Ok gives
  pub tests_are : tests ≡ tests_in t
  pub patterns_are : patterns ≡ patterns_in t

-- the tree has a type, which is that of a scalar or a vector, it looks no further back than samples
-- are kept, and no step in it is 0
pub record MayEvaluate (t : Tree) : Type 0 where
  pub typed_so : is_ok (typed t) ≡ true
  pub checked_so : is_ok (checked t) ≡ true
  pub reaches : reads_back t ≤ kept
  pub steps : has_steps t ≡ true

-- the answer of a check: a checked expression, or the first fault, unless memory ran out
abbrev pub Verdict : Tree → Result Expr TypeError → Type 0
Verdict t (Ok e) = MayEvaluate t
Verdict t (Err (Fault at kind)) = checked t ≡ Err (fault at kind)
Verdict t (Err Memory) = Unit {0}
