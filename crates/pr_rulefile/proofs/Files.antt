-- What is told of a file: its groups, or all that is wrong.
use Rattle.std.proofs.Common.{◌≡◌, ◌<◌, ◌+◌, ℕ, length, arith, List, [], ◌∷◌, ◌++◌, Some, map, refl, subst}
use Rattle.std.proofs.lemmas.Grind.{common_steps}
use Rattle.pr_rulefile.specs.declared.fields.problem.Problem.{Problem}
use Rattle.pr_rulefile.specs.Order.{in_order}
use Rattle.spec_rules.specs.declared.definitions.GroupDef.{GroupDef}
use Rattle.spec_rules.specs.Definitions.{Group, group_of_def, rule_count}
use Rattle.pr_rulefile.specs.File.{RuleReading, by_problems, gives_file, gives_problems, groups_given, rules_given, these_groups, so_many_rules}

-- where something is wrong, all that is wrong is told
pub some_problems : (ps : List Problem) (gs : List Group) → 0 < length ps → by_problems ps gs ≡ gives_problems (in_order ps)
some_problems [] gs h = absurd (omega arith)
some_problems (p ∷ ps) gs h = refl

-- what came of the groups tells which they were, or how many rules they have
same_lists : (gs hs : List Group) (r : RuleReading) → these_groups (gs ++ []) ≡ these_groups ([] ++ (hs ++ [])) → r ≡ gives_file hs → r ≡ gives_file gs
same_lists gs hs r h e = grind (arith, common_steps)

pub same_groups : (old new : List GroupDef) (hs : List Group) (r : RuleReading) → old ≡ [] → these_groups (map group_of_def new ++ []) ≡ these_groups (map group_of_def old ++ (hs ++ [])) → r ≡ gives_file hs
    → r ≡ gives_file (map group_of_def new)
same_groups old new hs r o h e = same_lists (map group_of_def new) hs r (subst (λ (ds : List GroupDef). these_groups (map group_of_def new ++ []) ≡ these_groups (map group_of_def ds ++ (hs ++ []))) o h) e

pub same_count : (n m : ℕ) (r : RuleReading) → so_many_rules (n + 0) ≡ so_many_rules (0 + rule_count (groups_given r ++ [])) → r ≡ gives_file (groups_given r) → rules_given r ≡ Some n
same_count n m r h e = grind (arith, common_steps)
