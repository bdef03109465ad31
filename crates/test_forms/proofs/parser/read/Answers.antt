use Rattle.std.proofs.Common.{rules, refl}
use Rattle.pr_forms.proofs.Public.{read_whole, only_value, not_whole, no_reading, rest_place, bad_place, end_place, left_short}
use Rattle.test_forms.specs.private.Tree.{seen_token}
use Rattle.test_forms.specs.private.Grammar.{production, table, Binary}
use Rattle.test_forms.specs.declared.parser.Level.TheVariants.{Sum}
use Rattle.test_forms.specs.private.Reader.{value_of}
use Rattle.test_forms.proofs.Table.{known}
use Rattle.test_forms.proofs.Ways.{has_tree}
use Rattle.test_forms.proofs.parser.read.Goals as goal

pub returns-then-is_empty : goal.returns-then-is_empty
returns-then-is_empty c = (
  (c.in-Ok.whole.place, read_whole seen_token production table known (Binary Sum) _ c.in-Ok.left.now (value_of c.in-Ok.whole) c.in-Ok.ensures.read (search rules)),
  λ v d. has_tree v c.in-Ok.whole (only_value seen_token production table known (Binary Sum) _ c.in-Ok.left.now (value_of c.in-Ok.whole) v c.in-Ok.ensures.read d),
  end_place seen_token production table known (Binary Sum) _ c.in-Ok.left.now (value_of c.in-Ok.whole) c.in-Ok.ensures.read (search rules),
)

pub returns-else-is_empty : goal.returns-else-is_empty
returns-else-is_empty c = (
  λ v d. not_whole seen_token production table known (Binary Sum) _ c.in-Ok.left.now (value_of c.in-Ok.whole) v c.is_empty.result c.in-Ok.ensures.read c.is_empty.ensures c.if-is_empty.false d,
  rw c.place_of.ensures (rest_place seen_token production table known (Binary Sum) _ c.in-Ok.left.now (value_of c.in-Ok.whole) c.in-Ok.ensures.read),
)

pub place_of-requires-in-Err-Bad : goal.place_of-requires-in-Err-Bad
place_of-requires-in-Err-Bad c = left_short seen_token production table known (Binary Sum) _ c.in-Err-Bad.rest.now _ (rw c.in-Err-Bad.field-0-is at c.in-Err-Bad.ensures.read) refl

pub returns-in-Err-Bad : goal.returns-in-Err-Bad
returns-in-Err-Bad c = (
  λ v d. no_reading seen_token production table known (Binary Sum) _ c.in-Err-Bad.rest.now v (rw c.in-Err-Bad.field-0-is at c.in-Err-Bad.ensures.read) d,
  rw c.place_of-in-Err-Bad.ensures (bad_place seen_token production table known (Binary Sum) _ c.in-Err-Bad.rest.now (rw c.in-Err-Bad.field-0-is at c.in-Err-Bad.ensures.read)),
)
