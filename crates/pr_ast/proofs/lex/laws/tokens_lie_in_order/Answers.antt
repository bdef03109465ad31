use Rattle.std.proofs.Common.{arith, refl}
use Rattle.pr_ast.specs.private.Order.{no_gap}
use Rattle.pr_ast.proofs.Ordered.{in_order}
use Rattle.pr_ast.proofs.lex.laws.tokens_lie_in_order.Goals as goal

pub returns : goal.returns
returns c = λ text tokens d. in_order text 0 refl (omega arith) (omega arith) no_gap d
