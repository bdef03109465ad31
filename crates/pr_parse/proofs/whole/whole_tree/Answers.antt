use Rattle.std.proofs.Common.{◌≡◌, rules, refl, subst, true}
use Rattle.pr_forms.proofs.Public.{read_whole, only_value, not_whole, no_reading, rest_place, bad_place, end_place, left_short}
use Rattle.pr_ast.specs.Tree.{tree_of}
use Rattle.pr_parse.specs.Seen.{see}
use Rattle.pr_parse.specs.Grammar.{production, expression, QueryValue}
use Rattle.pr_parse.specs.GrammarTable.{table}
use Rattle.pr_parse.specs.private.Whole.{HasTree}
use Rattle.pr_parse.specs.private.Reader.{value_of}
use Rattle.pr_parse.specs.declared.made.Part.{Part}
use Rattle.pr_parse.proofs.Table.{known}
use Rattle.pr_parse.proofs.whole.whole_tree.Goals as goal

has_tree : (v : QueryValue) (x : Part) → value_of x ≡ v → HasTree v (tree_of x.expr)
has_tree v x e = subst (λ w. HasTree w (tree_of x.expr)) e refl

pub returns-then-is_empty-clause-tree : goal.returns-then-is_empty-clause-tree
returns-then-is_empty-clause-tree c = (c.in-Ok.whole.place, read_whole see production table known expression _ c.in-Ok.left.now (value_of c.in-Ok.whole) c.in-Ok.ensures.read (search rules))

pub returns-then-is_empty-clause-only : goal.returns-then-is_empty-clause-only
returns-then-is_empty-clause-only c = λ v d. has_tree v c.in-Ok.whole (only_value see production table known expression _ c.in-Ok.left.now (value_of c.in-Ok.whole) v c.in-Ok.ensures.read d)

pub returns-then-is_empty-clause-place : goal.returns-then-is_empty-clause-place
returns-then-is_empty-clause-place c = end_place see production table known expression _ c.in-Ok.left.now (value_of c.in-Ok.whole) c.in-Ok.ensures.read (search rules)

pub returns-else-is_empty-clause-only : goal.returns-else-is_empty-clause-only
returns-else-is_empty-clause-only c = λ v d. not_whole see production table known expression _ c.in-Ok.left.now (value_of c.in-Ok.whole) v c.is_empty.result c.in-Ok.ensures.read c.is_empty.ensures c.if-is_empty.false d

pub returns-else-is_empty-clause-place : goal.returns-else-is_empty-clause-place
returns-else-is_empty-clause-place c = rw c.place_of.ensures (rest_place see production table known expression _ c.in-Ok.left.now (value_of c.in-Ok.whole) c.in-Ok.ensures.read)

pub place_of-requires-in-Err-Bad : goal.place_of-requires-in-Err-Bad
place_of-requires-in-Err-Bad c = left_short see production table known expression _ c.in-Err-Bad.rest.now _ (rw c.in-Err-Bad.field-0-is at c.in-Err-Bad.ensures.read) refl

pub returns-in-Err-Bad-clause-only : goal.returns-in-Err-Bad-clause-only
returns-in-Err-Bad-clause-only c = λ v d. no_reading see production table known expression _ c.in-Err-Bad.rest.now v (rw c.in-Err-Bad.field-0-is at c.in-Err-Bad.ensures.read) d

pub returns-in-Err-Bad-clause-place : goal.returns-in-Err-Bad-clause-place
returns-in-Err-Bad-clause-place c = rw c.place_of-in-Err-Bad.ensures (bad_place see production table known expression _ c.in-Err-Bad.rest.now (rw c.in-Err-Bad.field-0-is at c.in-Err-Bad.ensures.read))
