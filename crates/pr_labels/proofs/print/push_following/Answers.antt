use Rattle.std.proofs.Common.{arith}
use Rattle.std.proofs.lemmas.Grind.{common_steps}
use Rattle.pr_words.proofs.Fronts.{front_after, front_on}
use Rattle.pr_labels.proofs.GoesOn.{goes_on, goes_on_if, comma_text}
use Rattle.pr_labels.proofs.print.push_following.Goals as goal

pub loop-pair-preserved : goal.loop-pair-preserved
loop-pair-preserved c =
    let comma = goes_on c.loop-pair.out.items _ c.extend_from_slice.new.self.items c.in_ok-extend_from_slice.ensures.items comma_text in
    record { written = grind (arith, common_steps); text = λ u. c.in_ok-push_pair.ensures.text (comma (c.loop-pair.invariant.text u)); front = grind (arith, common_steps, front_on, front_after) }

pub returns-in_err-extend_from_slice-clause-text : goal.returns-in_err-extend_from_slice-clause-text
returns-in_err-extend_from_slice-clause-text c =
    let comma = goes_on_if c.extend_from_slice.result c.loop-pair.out.items _ c.extend_from_slice.new.self.items c.extend_from_slice.ensures.items comma_text in
    λ u. comma (c.loop-pair.invariant.text u)

pub returns-in_err-push_pair-clause-text : goal.returns-in_err-push_pair-clause-text
returns-in_err-push_pair-clause-text c =
    let comma = goes_on c.loop-pair.out.items _ c.extend_from_slice.new.self.items c.in_ok-extend_from_slice.ensures.items comma_text in
    λ u. c.in_err-push_pair.ensures.text (comma (c.loop-pair.invariant.text u))
