-- Range selectors, one argument more.
use Rattle.std.proofs.Common.{◌≡◌, List, ◌++◌, Option, ap, sym, ◌∙◌, append_assoc}
use Rattle.pr_ast.specs.declared.names.Func.{Func}
use Rattle.pr_ast.specs.Tree.{Tree, more}
use Rattle.pr_rule.specs.spec_rules.private.Carried.{RangeUse, uses_under}

pub one_more : (func : Option Func) (now ts t : Tree) (base old new : List RangeUse) → now ≡ more ts t → old ≡ base ++ uses_under func ts → new ≡ old ++ uses_under func t → new ≡ base ++ uses_under func now
one_more func now ts t base old new h i j =
    j ∙ ap (λ l. l ++ uses_under func t) i ∙ append_assoc base (uses_under func ts) (uses_under func t) ∙ ap (λ x. base ++ uses_under func x) (sym h)
