use Rattle.std.proofs.Common.{◌≡◌, ◌∙◌, ◌+◌, ◌*◌, ◌^◌, ℕ, sym, get_or, ◌-◌, ap, min, arith}
use Rattle.pr_words.proofs.Decimals.{value-more, capped-more}
use Rattle.pr_testfile.proofs.inputs.number.capped.Goals as goal

held : (v d : ℕ) → min (min (min (v * 10) (2 ^ 128 - 1) + d) (2 ^ 128 - 1)) (2 ^ 100) ≡ min (v * 10 + d) (2 ^ 100)
held v d = omega arith

pub loop-digit-preserved : goal.loop-digit-preserved
loop-digit-preserved c =
    let d = get_or c.args.digits.now c.loop-digit.digit-index 0 - 48 in
    let h : c.min-value.result ≡ min (c.loop-digit.value * 10 + d) (2 ^ 100)
    = cc (c.min-value.ensures, c.saturating_add.ensures, c.saturating_mul.ensures, c.from.ensures, held c.loop-digit.value d) in
    h ∙ capped-more (2 ^ 100) c.loop-digit.value _ d c.loop-digit.invariant
    ∙ ap (λ n. min n (2 ^ 100)) (sym (value-more c.args.digits.now c.loop-digit.digit-index c.requires c.loop-digit-test.true))
