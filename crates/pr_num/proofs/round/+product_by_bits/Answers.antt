use Rattle.pr_num.proofs.Rounding.{even_step, odd_step}
use Rattle.pr_num.proofs.round.+product_by_bits.Goals as goal

pub returns-then-b-eq0-2-clause-product : goal.returns-then-b-eq0-2-clause-product
returns-then-b-eq0-2-clause-product t c =
    even_step c.args.a c.args.b _ _ _ _ c.args.divisor c.if-b-eq0-2.true c.product_by_bits-front.ensures.product c.rests_added-carry.ensures.sum

pub returns-clause-product : goal.returns-clause-product
returns-clause-product t c =
    odd_step c.args.a c.args.b _ _ _ _ _ _ c.args.divisor c.if-b-eq0-2.false c.product_by_bits-front.ensures.product c.rests_added-carry.ensures.sum c.rests_added-more.ensures.sum
