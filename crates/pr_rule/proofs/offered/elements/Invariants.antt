use Rattle.std.proofs.Common.{◌≡◌, ◌++◌}
use Rattle.spec_rules.specs.Evaluations.{recorded}
use Rattle.pr_rule.proofs.offered.elements.Given as goal

-- the elements so far, and those to come
abbrev pub invariant-loop-found : goal.invariant-loop-found
invariant-loop-found l = l.items.items ++ recorded l.found-iterator.rest.items ≡ recorded l.fn.founds.items
