-- The arguments of a call of a function of a range.
use Rattle.std.proofs.Common.{◌≡◌, ◌≢◌, ℕ, zero, suc, ◌≤◌, true, false, List, [], ◌∷◌, length, get_or, slice_get, Some, Ok, refl, sym, ap, subst, ◌∙◌, arith}
use Rattle.std.proofs.lemmas.List.{length-map}
use Rattle.pr_ast.specs.declared.place.Place.{Place}
use Rattle.pr_ast.specs.declared.names.Func.{Func}
use Rattle.pr_ast.specs.declared.names.Func.TheVariants as fn
use Rattle.pr_ast.specs.declared.tree.Expr.{Expr}
use Rattle.pr_ast.specs.Tree.{Tree, call, more, none, tree_of, trees_of}
use Rattle.spec_meaning.specs.pr_types.declared.kind.ValueType.{ValueType}
use Rattle.spec_meaning.specs.pr_types.declared.kind.ValueType.TheVariants.{Range, Scalar}
use Rattle.spec_meaning.specs.pr_types.Signatures.{func_signature, wanted}
use Rattle.spec_meaning.specs.pr_types.private.Parts.{AreArguments, arguments}
use Rattle.spec_meaning.specs.pr_types.Typed.{typed}
use Rattle.spec_meaning.proofs.TypesParts.{parts_of_call}
use Rattle.pr_range.specs.private.Asks.{takes_argument}
use Rattle.pr_eval.specs.private.Asking.{asked_for, takes_range}
use Rattle.pr_eval.specs.private.Parts.{IsValued}
use Rattle.pr_eval.proofs.Operands.{argument_at, arguments_are}

pub alone_argument : (f : Func) → takes_range f ≡ true → f ≢ fn.QuantileOverTime → f ≢ fn.PredictLinear → takes_argument (asked_for f) ≡ false
alone_argument fn.QuantileOverTime h k l = absurd (k refl)
alone_argument fn.PredictLinear h k l = absurd (l refl)
alone_argument fn.AbsentOverTime h k l = refl
alone_argument fn.Rate h k l = refl
alone_argument fn.Increase h k l = refl
alone_argument fn.Delta h k l = refl
alone_argument fn.Irate h k l = refl
alone_argument fn.Idelta h k l = refl
alone_argument fn.Deriv h k l = refl
alone_argument fn.Changes h k l = refl
alone_argument fn.Resets h k l = refl
alone_argument fn.SumOverTime h k l = refl
alone_argument fn.AvgOverTime h k l = refl
alone_argument fn.MinOverTime h k l = refl
alone_argument fn.MaxOverTime h k l = refl
alone_argument fn.CountOverTime h k l = refl
alone_argument fn.LastOverTime h k l = refl
alone_argument fn.PresentOverTime h k l = refl
alone_argument _ h k l = absurd cc

-- a function of a range alone takes one argument
record TakesOne (f : Func) : Type 0 where
  least : (func_signature f).least ≡ 1
  most : (func_signature f).most ≡ 1
  first : (func_signature f).first ≡ Range

takes_one : (f : Func) → takes_range f ≡ true → takes_argument (asked_for f) ≡ false → TakesOne f
unfolding func_signature
takes_one fn.AbsentOverTime h k = record { least = refl; most = refl; first = refl }
takes_one fn.Rate h k = record { least = refl; most = refl; first = refl }
takes_one fn.Increase h k = record { least = refl; most = refl; first = refl }
takes_one fn.Delta h k = record { least = refl; most = refl; first = refl }
takes_one fn.Irate h k = record { least = refl; most = refl; first = refl }
takes_one fn.Idelta h k = record { least = refl; most = refl; first = refl }
takes_one fn.Deriv h k = record { least = refl; most = refl; first = refl }
takes_one fn.Changes h k = record { least = refl; most = refl; first = refl }
takes_one fn.Resets h k = record { least = refl; most = refl; first = refl }
takes_one fn.SumOverTime h k = record { least = refl; most = refl; first = refl }
takes_one fn.AvgOverTime h k = record { least = refl; most = refl; first = refl }
takes_one fn.MinOverTime h k = record { least = refl; most = refl; first = refl }
takes_one fn.MaxOverTime h k = record { least = refl; most = refl; first = refl }
takes_one fn.CountOverTime h k = record { least = refl; most = refl; first = refl }
takes_one fn.LastOverTime h k = record { least = refl; most = refl; first = refl }
takes_one fn.PresentOverTime h k = record { least = refl; most = refl; first = refl }
takes_one _ h k = absurd cc

record TakesTwo (f : Func) (first second : ValueType) : Type 0 where
  least : (func_signature f).least ≡ 2
  most : (func_signature f).most ≡ 2
  first_is : (func_signature f).first ≡ first
  second_is : (func_signature f).others ≡ second

quantile_takes : TakesTwo fn.QuantileOverTime Scalar Range
unfolding func_signature
quantile_takes = record { least = refl; most = refl; first_is = refl; second_is = refl }

prediction_takes : TakesTwo fn.PredictLinear Range Scalar
unfolding func_signature
prediction_takes = record { least = refl; most = refl; first_is = refl; second_is = refl }

-- arguments as a tree
pub one_tree : (es : List Expr) (e : Expr) → length es ≡ 1 → e ≡ get_or es 0 e → trees_of es ≡ more none (tree_of e)
one_tree [] e n h = absurd (omega (arith, n))
one_tree (x ∷ []) e n h = ap (λ y. more none (tree_of y)) (sym h)
one_tree (x ∷ y ∷ es) e n h = absurd (omega (arith, n))

pub two_trees : (es : List Expr) (d e : Expr) → length es ≡ 2 → d ≡ get_or es 0 d → e ≡ get_or es 1 e → trees_of es ≡ more (more none (tree_of d)) (tree_of e)
two_trees [] d e n h k = absurd (omega (arith, n))
two_trees (x ∷ []) d e n h k = absurd (omega (arith, n))
two_trees (x ∷ y ∷ []) d e n h k = (λ i. more (more none (tree_of (sym h i))) (tree_of (sym k i)))
two_trees (x ∷ y ∷ z ∷ es) d e n h k = absurd (omega (arith, n))

got : {A : Type 0} (xs : List A) (i : ℕ) (x : A) → suc i ≤ length xs → x ≡ get_or xs i x → slice_get xs i ≡ Some x
got [] i x le h = absurd (omega (arith, le))
got (y ∷ xs) zero x le h = ap Some (sym h)
got (y ∷ xs) (suc i) x le h = got xs i x (omega (arith, le)) h

module _ (t : Tree) (p : Place) (f : Func) (es : List Expr) (is : t ≡ call p f (trees_of es)) (h : IsValued t) where
  given : AreArguments (func_signature f) (arguments (trees_of es))
  given = (parts_of_call p f (trees_of es) h.gives (sym (ap typed is) ∙ h.typed_so)).0

  as_many : length (arguments (trees_of es)) ≡ length es
  as_many = ap length (arguments_are es) ∙ length-map es tree_of

  type_at : (i : ℕ) (e : Expr) → suc i ≤ length es → e ≡ get_or es i e → typed (tree_of e) ≡ Ok (wanted (func_signature f) i)
  type_at i e le at = given.types i (tree_of e) (argument_at es i e (got es i e le at))

  pub one_argument : takes_range f ≡ true → takes_argument (asked_for f) ≡ false → length es ≡ 1
  one_argument k l =
      let takes = takes_one f k l in
      let least : (func_signature f).least ≤ length (arguments (trees_of es)) = given.at_least in
      let most : length (arguments (trees_of es)) ≤ (func_signature f).most = given.at_most in
      let same = as_many in
      let low = takes.least in
      let high = takes.most in
      omega (arith, least, most, same, low, high)

  pub only_ranged : takes_range f ≡ true → takes_argument (asked_for f) ≡ false → (e : Expr) → e ≡ get_or es 0 e → typed (tree_of e) ≡ Ok Range
  only_ranged k l e at = type_at 0 e (let one = one_argument k l in omega (arith, one)) at ∙ ap Ok (takes_one f k l).first

  two_of : (a b : ValueType) → TakesTwo f a b → length es ≡ 2
  two_of a b takes =
      let least : (func_signature f).least ≤ length (arguments (trees_of es)) = given.at_least in
      let most : length (arguments (trees_of es)) ≤ (func_signature f).most = given.at_most in
      let same = as_many in
      let low = takes.least in
      let high = takes.most in
      omega (arith, least, most, same, low, high)

  first_of : (a b : ValueType) → TakesTwo f a b → (e : Expr) → e ≡ get_or es 0 e → typed (tree_of e) ≡ Ok a
  first_of a b takes e at = type_at 0 e (let two = two_of a b takes in omega (arith, two)) at ∙ ap Ok takes.first_is

  second_of : (a b : ValueType) → TakesTwo f a b → (e : Expr) → e ≡ get_or es 1 e → typed (tree_of e) ≡ Ok b
  second_of a b takes e at = type_at 1 e (let two = two_of a b takes in omega (arith, two)) at ∙ ap Ok takes.second_is

  pub quantile_two : f ≡ fn.QuantileOverTime → length es ≡ 2
  quantile_two same = two_of Scalar Range (subst (λ g. TakesTwo g Scalar Range) (sym same) quantile_takes)

  pub quantile_scalar : f ≡ fn.QuantileOverTime → (e : Expr) → e ≡ get_or es 0 e → typed (tree_of e) ≡ Ok Scalar
  quantile_scalar same = first_of Scalar Range (subst (λ g. TakesTwo g Scalar Range) (sym same) quantile_takes)

  pub quantile_range : f ≡ fn.QuantileOverTime → (e : Expr) → e ≡ get_or es 1 e → typed (tree_of e) ≡ Ok Range
  quantile_range same = second_of Scalar Range (subst (λ g. TakesTwo g Scalar Range) (sym same) quantile_takes)

  pub prediction_two : f ≡ fn.PredictLinear → length es ≡ 2
  prediction_two same = two_of Range Scalar (subst (λ g. TakesTwo g Range Scalar) (sym same) prediction_takes)

  pub prediction_range : f ≡ fn.PredictLinear → (e : Expr) → e ≡ get_or es 0 e → typed (tree_of e) ≡ Ok Range
  prediction_range same = first_of Range Scalar (subst (λ g. TakesTwo g Range Scalar) (sym same) prediction_takes)

  pub prediction_scalar : f ≡ fn.PredictLinear → (e : Expr) → e ≡ get_or es 1 e → typed (tree_of e) ≡ Ok Scalar
  prediction_scalar same = second_of Range Scalar (subst (λ g. TakesTwo g Range Scalar) (sym same) prediction_takes)
