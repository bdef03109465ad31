use Rattle.std.proofs.Common.{◌≡◌, ◌∙◌, ◌+◌, ◌*◌, sym, get_or, ◌-◌, ap, min}
use Rattle.pr_words.proofs.Decimals.{value-more, capped-more, held}
use Rattle.pr_words.proofs.decimal.capped.Goals as goal

pub loop-digit-preserved : goal.loop-digit-preserved
loop-digit-preserved c =
    let d = get_or c.args.digits.now c.loop-digit.digit-index 0 - 48 in
    let h : c.min-value.result ≡ min (c.loop-digit.value * 10 + d) c.args.limit
    = cc (c.min-value.ensures, c.saturating_add.ensures, c.saturating_mul.ensures, c.from.ensures, held c.args.limit c.loop-digit.value d c.ranges.limit.fits) in
    h ∙ capped-more c.args.limit c.loop-digit.value _ d c.loop-digit.invariant
    ∙ ap (λ n. min n c.args.limit) (sym (value-more c.args.digits.now c.loop-digit.digit-index c.requires c.loop-digit-test.true))
