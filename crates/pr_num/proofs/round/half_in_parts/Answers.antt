use Rattle.std.proofs.Common.{rules, ◌≡◌, ◌%◌, ◌*◌, ◌+◌, subst, ℕ}
use Rattle.pr_num.proofs.Rounding.{scaled_floor}
use Rattle.pr_num.proofs.round.half_in_parts.Goals as goal

pub returns-clause-none : goal.returns-clause-none
returns-clause-none c =
    let part = c.product_parts-part.result in
    let product : c.args.a % c.args.c * c.args.b ≡ part.0 * c.args.c + part.1 =
    subst (λ (left : ℕ). left * c.args.b ≡ part.0 * c.args.c + part.1) c.divided-front.ensures.rest c.product_parts-part.ensures.product in
    let floor = scaled_floor c.args.a c.args.b c.args.c part.0 part.1 c.product_parts-part.ensures.below product in
    search (rules, floor)
