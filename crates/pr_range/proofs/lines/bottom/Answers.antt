use Rattle.std.proofs.Common.{◌≡◌, ◌-◌, ◌*◌, ◌≤◌, ℕ, pos, ap, ◌∙◌, arith}
use Rattle.std.specs.Prelude.{◌-ℤ◌}
use Rattle.std.proofs.lemmas.Int.{ints}
use Rattle.spec_vectors.specs.Regression.{count, sum_x, sum_xx}
use Rattle.pr_range.proofs.Spreads.{spread}
use Rattle.pr_range.proofs.lines.bottom.Goals as goal

less : (a b : ℕ) → b ≤ a → pos (a - b) ≡ pos a -ℤ pos b
less a b h = omega (arith, ints)

pub overflow_sub-result : goal.overflow_sub-result
overflow_sub-result c =
    let first = c.args.first.now in
    let rest = c.args.rest.now in
    let x : c.sum_x-times.result * c.sum_x-times.result ≡ sum_x first rest * sum_x first rest = ap (λ n. n * n) c.sum_x-times.ensures.value in
    let xx : c.count.result * c.sum_xx.result ≡ count rest * sum_xx first rest = (λ i. c.count.ensures.value i * c.sum_xx.ensures.value i) in
    let above = spread first rest c.requires.rising in
    omega arith

pub returns-clause-value : goal.returns-clause-value
returns-clause-value c =
    let first = c.args.first.now in
    let rest = c.args.rest.now in
    let x : c.sum_x-times.result * c.sum_x-times.result ≡ sum_x first rest * sum_x first rest = ap (λ n. n * n) c.sum_x-times.ensures.value in
    let xx : c.count.result * c.sum_xx.result ≡ count rest * sum_xx first rest = (λ i. c.count.ensures.value i * c.sum_xx.ensures.value i) in
    let above = spread first rest c.requires.rising in
    (λ i. pos (xx i - x i)) ∙ less (count rest * sum_xx first rest) (sum_x first rest * sum_x first rest) (omega arith)

pub returns-clause-some : goal.returns-clause-some
returns-clause-some c =
    let first = c.args.first.now in
    let rest = c.args.rest.now in
    let x : c.sum_x-times.result * c.sum_x-times.result ≡ sum_x first rest * sum_x first rest = ap (λ n. n * n) c.sum_x-times.ensures.value in
    let xx : c.count.result * c.sum_xx.result ≡ count rest * sum_xx first rest = (λ i. c.count.ensures.value i * c.sum_xx.ensures.value i) in
    let above = spread first rest c.requires.rising in
    omega arith
