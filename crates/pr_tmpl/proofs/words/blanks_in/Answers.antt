use Rattle.std.proofs.Common.{arith}
use Rattle.pr_labels.proofs.FormsCarrying.{carry_start, turn_taken, tokens_over}
use Rattle.pr_tmpl.proofs.WordWays.{takes_blank, lacks_blank}
use Rattle.pr_tmpl.proofs.words.blanks_in.Goals as goal

pub loop-after-init : goal.loop-after-init
loop-after-init c = record { leads = carry_start; shorter = omega arith; text = λ u. u }

pub loop-after-preserved : goal.loop-after-preserved
loop-after-preserved c = record { leads = turn_taken c.loop-after.invariant.leads (takes_blank c.loop-after.rest.now c.in-Some.after.now c.in-Some.ensures.read); shorter = omega (arith, c.loop-after.invariant.shorter, c.in-Some.ensures.shorter); text = λ u. c.in-Some.ensures.text (c.loop-after.invariant.text u) }

pub returns-clause-read : goal.returns-clause-read
returns-clause-read c = tokens_over c.loop-after.invariant.leads (lacks_blank c.loop-after.rest.now c.in_default.ensures.read)
