use Rattle.std.proofs.Common.{arith}
use Rattle.pr_time.proofs.SpanUnits.{milliseconds, minutes, no_minutes}
use Rattle.pr_time.proofs.text.minute_in.Goals as goal

pub returns-in-Some-clause-read : goal.returns-in-Some-clause-read
returns-in-Some-clause-read c = milliseconds c.args.greatest _ _ c.in-Some.ensures.read

pub returns-in-Second-clause-read : goal.returns-in-Second-clause-read
returns-in-Second-clause-read c = no_minutes c.args.greatest _ c.in-Second.is c.in-None.ensures.read

pub returns-in_default : goal.returns-in_default
returns-in_default c = record { read = minutes c.args.greatest _ c.in_default.not-Second c.in_default.not-Millisecond c.in-None.ensures.read; shorter = omega arith }
