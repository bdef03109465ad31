-- One more group.
use Rattle.std.proofs.Common.{◌≡◌, ℕ, Bool, List, ◌∷◌, ◌++◌, append_assoc, subst}
use Rattle.pr_yaml.specs.Tree.{Tree}
use Rattle.pr_rulefile.specs.declared.fields.problem.Problem.{Problem}
use Rattle.pr_rulefile.specs.Groups.{and_name, name_of, group_problems, groups_problems}

-- what was found and what is in the groups that are left stays all, where the first one of them is
-- taken
pub one_group : (found more all : List Problem) (before after : List ℕ → Bool) (t : Tree) (ts rest : List Tree) → rest ≡ t ∷ ts →
    found ++ groups_problems before rest ≡ all → more ≡ found ++ group_problems before t → after ≡ and_name before (name_of t) → more ++ groups_problems after ts ≡ all
unfolding groups_problems
one_group found more all before after t ts rest r h p e =
    let Q : List Tree → Type 0 = λ us. found ++ groups_problems before us ≡ all in
    rw (p, e, append_assoc) (subst Q r h)
