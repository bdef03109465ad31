-- Where nothing is wrong, there is a rule, and a group.
use Rattle.std.proofs.Common.{◌≡◌, ℕ, Bool, List, [], ◌∷◌, ◌++◌, Option, Some, None, Result, Ok, Err, refl}
use Rattle.std.specs.Prelude.{codes, IsSome}
use Rattle.std.specs.Option.{option_map}
use Rattle.std.specs.List.{flat_map}
use Rattle.pr_ast.specs.Tree.{Tree as Expression}
use Rattle.pr_yaml.specs.Tree.{Tree, EntryTree}
use Rattle.pr_rulefile.specs.declared.fields.problem.Problem.{Problem}
use Rattle.pr_rulefile.specs.Nodes.{line_of, fields_of, written}
use Rattle.pr_rulefile.specs.Problems.{by_fields}
use Rattle.pr_rulefile.specs.Expressions.{expression_under, expression_problems, tree_found}
use Rattle.pr_rulefile.specs.Rules.{naming_of, naming_problems, rule_field_problems, rule_in_problems, rule_problems, rule_in, rule_by, rule_of, rule_with}
use Rattle.pr_rulefile.specs.Groups.{group_in_problems, group_problems, group_by, group_of}

-- a part of nothing is nothing
middle : {A : Type 0} (xs ys zs : List A) → xs ++ (ys ++ zs) ≡ [] → ys ≡ []
middle [] [] zs h = refl
middle [] (y ∷ ys) zs h = cc
middle (x ∷ xs) ys zs h = cc

some_tree : (group es : List EntryTree) (r : Result Expression Problem) → expression_problems r ≡ [] → IsSome (option_map (rule_with group es) (tree_found r))
some_tree group es (Ok t) h = refl
some_tree group es (Err p) h = cc

by_rule : (group : List EntryTree) (line : ℕ) (o : Option (List EntryTree)) → by_fields (rule_in_problems line) line o ≡ [] → IsSome (rule_by group line o)
unfolding rule_in_problems rule_in
by_rule group line (Some es) h =
    some_tree group es (expression_under line (written (codes "expr") es))
    (middle (naming_problems line (naming_of es)) (expression_problems (expression_under line (written (codes "expr") es))) (flat_map (rule_field_problems (naming_of es)) es) h)
by_rule group line None h = cc

pub rule_there : (group : List EntryTree) (t : Tree) → rule_problems t ≡ [] → IsSome (rule_of group t)
unfolding rule_problems rule_of
rule_there group t h = by_rule group (line_of t) (fields_of t) h

by_map : (before : List ℕ → Bool) (line : ℕ) (o : Option (List EntryTree)) → by_fields (group_in_problems before line) line o ≡ [] → IsSome (group_by o)
by_map before line (Some es) h = refl
by_map before line None h = cc

pub group_there : (before : List ℕ → Bool) (t : Tree) → group_problems before t ≡ [] → IsSome (group_of t)
unfolding group_problems group_of
group_there before t h = by_map before (line_of t) (fields_of t) h
