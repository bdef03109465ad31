use Rattle.std.proofs.Common.{arith}
use Rattle.pr_labels.specs.private.SeriesReader.{name_over}
use Rattle.pr_labels.proofs.SeriesReading.{more_name}
use Rattle.pr_labels.proofs.series.series.name_in.Goals as goal

pub loop-byte-preserved : goal.loop-byte-preserved
loop-byte-preserved c = record {
  read = λ whole end g. c.loop-byte.invariant.read whole end
      (more_name c.args.part _ c.in-Some.after.now _ whole end _ c.in-Some.byte c.from-in-Some.result c.from-in-Some.ensures c.in-Some.ensures.small c.in_ok-push-2.ensures.bytes c.in-Some.ensures.read g);
  shorter = omega (arith, c.in-Some.ensures.shorter, c.loop-byte.invariant.shorter);
  text = λ u. c.in-Some.ensures.text (c.loop-byte.invariant.text u);
}

pub returns-clause-read : goal.returns-clause-read
returns-clause-read c = c.loop-byte.invariant.read _ _ (name_over c.in_default.ensures.read)
