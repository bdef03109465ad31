use Rattle.std.proofs.Common.{◌∙◌, sym, get_or, ◌-◌, ap, min, ◌^◌}
use Rattle.pr_num.proofs.Digits.{value-more, capped-more}
use Rattle.pr_num.proofs.scale.capped.Goals as goal

pub loop-c-preserved : goal.loop-c-preserved
loop-c-preserved c =
    c.min-value.ensures ∙ capped-more _ _ _ (get_or c.args.digits.now c.loop-c.c-index 0 - 48) c.loop-c.invariant
    ∙ ap (λ n. min n (10 ^ 30)) (sym (value-more c.args.digits.now c.loop-c.c-index c.requires c.loop-c-test.true))
