use Rattle.std.proofs.Common.{◌≡◌, ◌⊎◌, inl, inr, ◌<◌, ◌≤◌, List, [], ◌∷◌, length, map, None, true, refl, sym, subst, arith}
use borrow.Author.Tests.{ltb-false, ltb-true}
use Rattle.pr_ast.specs.declared.tree.Expr.{Expr}
use Rattle.pr_ast.specs.declared.names.Func.{Func}
use Rattle.pr_ast.specs.declared.names.Func.TheVariants.{Timestamp}
use Rattle.pr_ast.specs.Tree.{Tree, more, more_from, none, tree_of, trees_of}
use Rattle.spec_meaning.specs.Calls.{selector_argument}
use Rattle.pr_eval.specs.private.Calls.{is_plain_call}
use Rattle.pr_eval.proofs.selected.stamped_selector.Goals as goal
use Rattle.pr_eval.proofs.selected.stamped_selector.Goals.{in_default-args-via-then-args-lt1, in_default-args-via-else-args-lt1+else-args-lt2}

-- two arguments or more are no selector
more_than_one : (ts t u : Tree) (us : List Tree) → selector_argument (more_from (more (more ts t) u) us) ≡ None
more_than_one ts t u [] = refl
more_than_one ts t u (v ∷ us) = more_than_one (more ts t) u v us

not_one : (es : List Expr) → (length es < 1) ⊎ (2 ≤ length es) → is_plain_call Timestamp (trees_of es) ≡ true
not_one [] h = refl
not_one (e ∷ []) (inl h) = absurd (omega (arith, h))
not_one (e ∷ []) (inr h) = absurd (omega (arith, h))
not_one (d ∷ e ∷ es) h = rw (more_than_one none (tree_of d) (tree_of e) (map tree_of es)) refl

pub returns-in_default-args-clause-none : goal.returns-in_default-args-clause-none
returns-in_default-args-clause-none c = λ none ranged.
    subst (λ (f : Func). is_plain_call f (trees_of c.args.args.now) ≡ true) (sym c.in-Timestamp.is)
    (not_one c.args.args.now (elim c.in_default-args.branch [ in_default-args-via-then-args-lt1 w ↦ inl (omega (arith, ltb-true, ltb-false)) | in_default-args-via-else-args-lt1+else-args-lt2 w ↦ inr (omega (arith, ltb-true, ltb-false)) ]))
