-- What the type of a whole tree says.
use Rattle.std.proofs.Common.{◌≡◌, ◌≤◌, ◌-◌, ◌^◌, min, ℕ, Bool, true, false, Ok, Err, is_ok, cond, nat_le, ◌⊎◌, inl, inr, refl, ap, sym, subst, ◌∙◌, arith}
use Rattle.std.proofs.lemmas.Bool.Decides.{nat_tests}
use Rattle.pr_ast.specs.declared.tree.Expr.{Expr}
use Rattle.pr_ast.specs.Tree.{Tree, tree_of}
use Rattle.pr_ast.specs.Reach.{reads_back, reach}
use Rattle.pr_types.specs.declared.kind.ValueType.{ValueType}
use Rattle.pr_types.specs.declared.kind.ValueType.TheVariants.{Scalar, Vector, Range, Text}
use Rattle.pr_types.specs.declared.kind.TypeKind.TheVariants.{Reach}
use Rattle.pr_types.specs.declared.kind.TypeFault.{TypeFault}
use Rattle.pr_types.specs.Signatures.{fault}
use Rattle.pr_types.specs.Operations.{is_instant}
use Rattle.pr_types.specs.Typed.{typed, checked, go_on, whole, within_kept, kept}
use Rattle.pr_types.specs.private.Checking.{MayEvaluate}
use Rattle.pr_types.proofs.Parts.{went_on, steps_of_typed}

-- the number of 64 bits tells whether samples are kept long enough
least_within : (n : ℕ) → min n (2 ^ 64 - 1) ≤ 3888000000 → n ≤ 3888000000
least_within n h = omega arith

within_least : (n : ℕ) → n ≤ 3888000000 → min n (2 ^ 64 - 1) ≤ 3888000000
within_least n h = omega arith

le_test : (n m : ℕ) → nat_le n m ≡ true → n ≤ m
le_test n m h = grind (arith, nat_tests)

test_le : (n m : ℕ) → n ≤ m → nat_le n m ≡ true
test_le n m h = grind (arith, nat_tests)

test_says : (n m : ℕ) (f : TypeFault) (v w : ValueType) → cond (nat_le n m) (Ok v) (Err f) ≡ Ok w → (n ≤ m) × (v ≡ w)
test_says n m f v w h = by_test (nat_le n m) refl h
  where
    by_test : (b : Bool) → nat_le n m ≡ b → cond b (Ok v) (Err f) ≡ Ok w → (n ≤ m) × (v ≡ w)
    by_test true e k = (le_test n m e, cc)
    by_test false e k = cc

within_says : (t : Tree) (v w : ValueType) → within_kept t v ≡ Ok w → (reads_back t ≤ kept) × (v ≡ w)
within_says t v w h =
    let p = test_says (reach t) kept (fault 0 (Reach (reach t) kept)) v w h in (least_within (reads_back t) p.0, p.1)

whole_says : (t : Tree) (v w : ValueType) → whole t v ≡ Ok w → (v ≡ w) × (is_instant w ≡ true) × (reads_back t ≤ kept)
whole_says t Scalar w h = let p = within_says t Scalar w h in (p.1, ap is_instant (sym p.1), p.0)
whole_says t Vector w h = let p = within_says t Vector w h in (p.1, ap is_instant (sym p.1), p.0)
whole_says t Range w h = cc
whole_says t Text w h = cc

-- a tree that is checked has the type of a scalar or a vector, and reaches samples that are kept
pub checked_says : (t : Tree) (v : ValueType) → checked t ≡ Ok v → (typed t ≡ Ok v) × (is_instant v ≡ true) × (reads_back t ≤ kept)
checked_says t v h =
    let w = went_on (whole t) (typed t) v h in
    let p = whole_says t w.0 v w.1.1 in (w.1.0 ∙ ap Ok p.0, p.1, p.2)

within_so : (t : Tree) (v : ValueType) → reads_back t ≤ kept → within_kept t v ≡ Ok v
within_so t v h = ap (λ b. cond b (Ok v) (Err (fault 0 (Reach (reach t) kept)))) (test_le (reach t) kept (within_least (reads_back t) h))

whole_so : (t : Tree) (v : ValueType) → is_instant v ≡ true → reads_back t ≤ kept → whole t v ≡ Ok v
whole_so t Scalar i h = within_so t Scalar h
whole_so t Vector i h = within_so t Vector h
whole_so t Range i h = cc
whole_so t Text i h = cc

-- and such a tree is checked
pub checked_so : (t : Tree) (v : ValueType) → typed t ≡ Ok v → is_instant v ≡ true → reads_back t ≤ kept → checked t ≡ Ok v
checked_so t v h i k = ap (go_on (whole t)) h ∙ whole_so t v i k

-- a tree that is checked may be evaluated
pub may_evaluate : (t : Tree) (gives : ValueType) → checked t ≡ Ok gives → MayEvaluate t
may_evaluate t gives h =
    let p = checked_says t gives h in record {
      typed_so = ap is_ok p.0;
      checked_so = ap is_ok h;
      reaches = p.2;
      steps = steps_of_typed t gives p.0;
    }

-- the same of the expression that contracts see
pub may_evaluate_as : (e f : Expr) (gives : ValueType) → e ≡ f → checked (tree_of e) ≡ Ok gives → MayEvaluate (tree_of f)
may_evaluate_as e f gives same h = let P : Expr → Type 0 = λ x. MayEvaluate (tree_of x) in subst P same (may_evaluate (tree_of e) gives h)

instant_is : (w : ValueType) → is_instant w ≡ true → (w ≡ Scalar) ⊎ (w ≡ Vector)
instant_is Scalar h = inl refl
instant_is Vector h = inr refl
instant_is Range h = cc
instant_is Text h = cc

-- what is no scalar is a vector
pub other_is_vector : (t : Tree) (w : ValueType) → checked t ≡ Ok w → (w ≡ Scalar → ⊥) → checked t ≡ Ok Vector
other_is_vector t w h n = elim (instant_is w (checked_says t w h).1) [ inl p ↦ absurd (n p) | inr p ↦ h ∙ ap Ok p ]
