use Rattle.std.proofs.Common.{ℕ, ◌≤◌, ◌^◌, ◌*◌, arith}
use Rattle.std.proofs.Math.Nat.{pow-le-pow_right, mul-le-mul}
use Rattle.pr_yaml.proofs.yaml_scan.quoted.fits.Goals as goal

width_small : (left : ℕ) → left ≤ 7 → 16 ^ left ≤ 16 ^ 7
width_small left h = pow-le-pow_right {n = 16} (omega arith) h

product_small : (a b : ℕ) → a ≤ 2 ^ 32 → b ≤ 16 ^ 7 → a * b ≤ 2 ^ 32 * 16 ^ 7
product_small a b h k = mul-le-mul h k

pub pow-width-requires : goal.pow-width-requires
pow-width-requires c = let h = width_small c.args.left c.requires in omega (arith, h)

pub overflow_mul-least : goal.overflow_mul-least
overflow_mul-least c =
    let h = width_small c.args.left c.requires in
    let p = product_small c.from.result c.pow-width.result (omega (arith, c.from.ensures, c.ranges.number)) (omega (arith, c.pow-width.ensures, h)) in
    omega (arith, p)
