use Rattle.std.proofs.Common.{arith}
use Rattle.pr_words.proofs.StringReading.{able_small, last_digit}
use Rattle.pr_words.proofs.strings.reader.digits_in.Goals as goal

pub digit_in-requires-clause-able : goal.digit_in-requires-clause-able
digit_in-requires-clause-able c = able_small c.args.limit c.loop-left.left c.loop-left.number c.loop-left.invariant.able

pub returns-in-Some-from_u32-clause-read : goal.returns-in-Some-from_u32-clause-read
returns-in-Some-from_u32-clause-read c =
    last_digit c.args.limit c.args.digits c.loop-left.left c.loop-left.number c.in-Some-from_u32.character _ c.loop-left.rest.now (omega (arith, c.loop-left-test.false))
    c.in-Some-from_u32.ensures.value.1 c.loop-left.invariant.leads
