use Rattle.std.proofs.Common.{◌∙◌, arith}
use Rattle.std.proofs.lemmas.Option.{IfSome_then}
use Rattle.pr_num.proofs.Scaling.{placed-some, placed-none, placed-shrunk, placed-zero, if_none}
use Rattle.pr_num.proofs.scale.placed.Goals as goal

pub returns-then-down-up-clause-some : goal.returns-then-down-up-clause-some
returns-then-down-up-clause-some c = λ n p s h shift. IfSome_then c.grown.result c.grown.ensures.some
    (λ x g. g.0 ∙ placed-some c.args.k n p s c.args.up c.args.down h shift g.1 c.if-down-up.true g.2)

pub returns-then-down-up-clause-none : goal.returns-then-down-up-clause-none
returns-then-down-up-clause-none c = λ n p s h shift. if_none c.grown.result c.grown.ensures.none
    (λ low. placed-none c.args.k n p s c.args.up c.args.down h shift (omega arith) c.if-down-up.true low)

pub returns-else-down-up-clause-some : goal.returns-else-down-up-clause-some
returns-else-down-up-clause-some c = λ n p s h shift. placed-shrunk c.args.k n p s c.args.up c.args.down c.shrunk.result h shift (omega arith) (c.shrunk.ensures n h)

pub returns-then-k-eq0-clause-some : goal.returns-then-k-eq0-clause-some
returns-then-k-eq0-clause-some c = λ n p s h _. placed-zero c.args.k n p s h c.if-k-eq0.true
