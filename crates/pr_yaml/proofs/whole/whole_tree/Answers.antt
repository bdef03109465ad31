use Rattle.std.proofs.Common.{ap, ◌∙◌, Some, rules}
use Rattle.pr_yaml.proofs.WholeTrees.{all_read, some_left, none_read, none_short}
use Rattle.pr_yaml.proofs.whole.whole_tree.Goals as goal

pub place_of-requires-in-Err-Bad : goal.place_of-requires-in-Err-Bad
place_of-requires-in-Err-Bad c = none_short c.args.distinct c.args.room c.args.tokens.now c.in-Err-Bad.rest.now (rw c.in-Err-Bad.field-0-is at c.in-Err-Bad.ensures.read)

pub returns-then-is_empty : goal.returns-then-is_empty
returns-then-is_empty c =
    let v = c.in-Ok.ensures.read in
    let x = all_read c.args.distinct c.args.room c.args.tokens.now c.in-Ok.left.now v.0 v.1.0 (search rules) in
    (x.0, x.1 ∙ ap (λ t. Some t) v.1.1)

pub returns-else-is_empty : goal.returns-else-is_empty
returns-else-is_empty c =
    let v = c.in-Ok.ensures.read in
    rw c.place_of.ensures (some_left c.args.distinct c.args.room c.args.tokens.now c.in-Ok.left.now v.0 c.is_empty.result v.1.0 c.is_empty.ensures c.if-is_empty.false)

pub returns-in-Err-Bad : goal.returns-in-Err-Bad
returns-in-Err-Bad c = rw c.place_of-in-Err-Bad.ensures (none_read c.args.distinct c.args.room c.args.tokens.now c.in-Err-Bad.rest.now (rw c.in-Err-Bad.field-0-is at c.in-Err-Bad.ensures.read))
