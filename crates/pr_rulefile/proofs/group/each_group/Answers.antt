use Rattle.std.proofs.Common.{map, ap, arith}
use Rattle.std.proofs.lemmas.Grind.{common_steps}
use Rattle.pr_words.specs.Names.{knows}
use Rattle.pr_yaml.specs.Tree.{tree_of}
use Rattle.pr_rulefile.specs.Groups.{groups_problems}
use Rattle.pr_rulefile.proofs.GroupSteps.{one_group}
use Rattle.pr_rulefile.proofs.group.each_group.Goals as goal
use Rattle.pr_rulefile.proofs.group.each_group.Goals.{in-Some-2+in_ok-put, in_default-2}

pub items-preserved : goal.items-preserved
items-preserved g c = (
  one_group c.items.found.items c.group_at.new.found.items _ (knows c.items.names) (knows c.add_group.new.names) (tree_of c.in-Some.item.now) (map tree_of c.in-Some.after.now) (map tree_of c.items.rest.now)
      (ap (map tree_of) c.in-Some.ensures.cases.0) c.items.invariant.0 c.in_ok-group.ensures.problems c.in_ok-add_group.ensures,
  λ more. elim c.match-branch-2.branch [ in-Some-2+in_ok-put w ↦ grind (arith, common_steps) | in_default-2 w ↦ grind (arith, common_steps) ],
)

pub returns-clause-problems : goal.returns-clause-problems
unfolding groups_problems
returns-clause-problems g c = grind (arith, common_steps)
