use Rattle.std.proofs.Common.{arith}
use Rattle.pr_tmpl.proofs.TextKept.{word_byte, word_rest}
use Rattle.pr_tmpl.proofs.WordWays.{word_starts, word_goes_on, word_ends, word_stops, word_breaks}
use Rattle.pr_tmpl.proofs.words.word_in.Goals as goal

pub loop-wanted-init : goal.loop-wanted-init
loop-wanted-init c = record { spells = word_starts c.args.word.now c.args.text.now; shorter = omega arith; small = c.requires; text = λ u. u }

pub loop-wanted-preserved : goal.loop-wanted-preserved
loop-wanted-preserved c = record {
  spells = word_goes_on c.args.word.now c.args.text.now c.loop-wanted.left.now c.in-Some.more.now c.loop-wanted.rest.now c.in-Some-front.after.now c.in-Some.wanted.now c.in-Some-front.byte c.in-Some-front._kind
      c.loop-wanted.invariant.spells c.in-Some.ensures.cases.0 c.in-Some-front.ensures.read c.if-byte-wanted.false;
  shorter = omega (arith, c.loop-wanted.invariant.shorter, c.in-Some-front.ensures.shorter);
  small = word_rest c.loop-wanted.left.now c.in-Some.more.now c.in-Some.wanted.now c.loop-wanted.invariant.small c.in-Some.ensures.cases.0;
  text = λ u. word_byte c.loop-wanted.left.now c.in-Some.more.now c.loop-wanted.rest.now c.in-Some-front.after.now c.in-Some.wanted.now c.in-Some-front.byte c.loop-wanted.invariant.small c.in-Some.ensures.cases.0 c.in-Some-front.ensures.read.bytes_are c.if-byte-wanted.false (c.loop-wanted.invariant.text u);
}

pub returns-in_default-front-clause-read : goal.returns-in_default-front-clause-read
returns-in_default-front-clause-read c = λ f. word_breaks c.args.word.now c.args.text.now c.loop-wanted.left.now c.in-Some.more.now c.loop-wanted.rest.now c.in-Some.wanted.now c.loop-wanted.invariant.spells c.in-Some.ensures.cases.0 c.in_default-front.ensures.read f

pub returns-then-byte-wanted-clause-read : goal.returns-then-byte-wanted-clause-read
returns-then-byte-wanted-clause-read c = λ f. word_stops c.args.word.now c.args.text.now c.loop-wanted.left.now c.in-Some.more.now c.loop-wanted.rest.now c.in-Some-front.after.now c.in-Some.wanted.now c.in-Some-front.byte c.in-Some-front._kind
    c.loop-wanted.invariant.spells c.in-Some.ensures.cases.0 c.in-Some-front.ensures.read c.if-byte-wanted.true f

pub returns-clause-read : goal.returns-clause-read
returns-clause-read c = λ f. word_ends c.args.word.now c.args.text.now c.loop-wanted.left.now c.loop-wanted.rest.now c.loop-wanted.invariant.spells c.in_default.ensures.cases f
