use Rattle.std.proofs.Common.{◌≡◌, ◌++◌, take}
use Rattle.pr_ast.specs.Tree.{trees_of}
use Rattle.pr_rule.specs.spec_rules.private.Carried.{uses_under}
use Rattle.pr_group.proofs.continued.gathering.+sources.Given as goal

-- those of the arguments so far
abbrev pub invariant-push_all-loop-arg : goal.invariant-push_all-loop-arg
invariant-push_all-loop-arg l = l.out.items ≡ l.fn.out.items ++ uses_under l.func (trees_of (take l.arg-index l.args))
