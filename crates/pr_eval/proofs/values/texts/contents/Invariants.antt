use Rattle.std.proofs.Common.{◌≡◌, map, take}
use Rattle.pr_ast.specs.Tree.{tree_of}
use Rattle.spec_meaning.specs.pr_types.Typed.{content}
use Rattle.pr_eval.proofs.values.texts.contents.Given as goal

-- the texts so far
abbrev pub invariant-loop-arg : goal.invariant-loop-arg
invariant-loop-arg l = l.texts.items ≡ map (λ e. content (tree_of e)) (take l.arg-index l.args)
