use Rattle.std.proofs.Common.{arith}
use Rattle.pr_labels.proofs.SeriesReading.{no_blank, one_blank, all_blanks}
use Rattle.pr_labels.proofs.series.series.blanks_in.Goals as goal

pub loop-blank-init : goal.loop-blank-init
loop-blank-init c = record { leads = no_blank _; shorter = omega arith; text = λ u. u }

pub loop-blank-preserved : goal.loop-blank-preserved
loop-blank-preserved c = record {
  leads = one_blank _ c.loop-blank.rest.now c.in-Some.after.now c.loop-blank.invariant.leads c.in-Some.ensures.read;
  shorter = omega (arith, c.in-Some.ensures.shorter, c.loop-blank.invariant.shorter);
  text = λ u. c.in-Some.ensures.text (c.loop-blank.invariant.text u);
}

pub returns-clause-read : goal.returns-clause-read
returns-clause-read c = all_blanks _ c.loop-blank.rest.now c.loop-blank.invariant.leads c.in_default.ensures.read
