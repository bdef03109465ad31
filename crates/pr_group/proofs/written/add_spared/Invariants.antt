use Rattle.std.proofs.Common.{◌≡◌, drop, flat_map, fold}
use Rattle.pr_ast.specs.pr_labels.Rising.{with_labels}
use Rattle.pr_group.specs.private.Carrying.{previous_in}
use Rattle.pr_group.proofs.written.add_spared.Given as goal

-- what is there, and what is to come
abbrev pub invariant-loop-rule : goal.invariant-loop-rule
invariant-loop-rule g l = fold with_labels l.sets.keys (flat_map previous_in (drop l.rule-index l.rules)) ≡ fold with_labels l.fn.sets.keys (flat_map previous_in l.rules)
