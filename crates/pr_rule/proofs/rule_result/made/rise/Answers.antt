use Rattle.std.proofs.Common.{◌-◌, sym, ◌∙◌, arith}
use Rattle.pr_rule.proofs.Remembering.{one_more_rises}
use Rattle.pr_rule.proofs.rule_result.made.rise.Goals as goal

pub loop-place-preserved : goal.loop-place-preserved
loop-place-preserved c =
    one_more_rises c.args.made.now (c.loop-place.place - 1) c.loop-place.place c.index-made-place.result c.index-made-place-in-loop-place.result (omega arith) c.loop-place-test.true
    (sym c.ge.ensures ∙ c.if-ge.false) c.loop-place.invariant
