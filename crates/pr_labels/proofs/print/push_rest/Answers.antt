use Rattle.std.proofs.Common.{arith, drop, ◌+◌}
use Rattle.std.proofs.lemmas.Grind.{common_steps}
use Rattle.pr_words.proofs.Fronts.{front_on}
use Rattle.pr_labels.proofs.GoesOn.{goes_on_if, close_text}
use Rattle.pr_labels.proofs.print.push_rest.Goals as goal

pub loop-pair-preserved : goal.loop-pair-preserved
loop-pair-preserved c =
    let step = c.in_ok-started.ensures.ok (drop (c.loop-pair.pair-index + 1) c.args.pairs.now) in
    record { written = grind (arith, common_steps, step); text = λ u. c.in_ok-started.ensures.text (c.loop-pair.invariant.text u); front = front_on _ _ _ c.loop-pair.invariant.front c.in_ok-started.ensures.front }

pub returns-then-started-clause-text : goal.returns-then-started-clause-text
returns-then-started-clause-text c =
    let closes = goes_on_if c.extend_from_slice.result c.loop-pair.out.items _ c.extend_from_slice.new.self.items c.extend_from_slice.ensures.items close_text in
    λ u. closes (c.loop-pair.invariant.text u)
