use Rattle.std.proofs.Common.{rules}
use Rattle.pr_expo.proofs.Reading.{ends_at, goes_on_to, line_fits, refuses_at, starts}
use Rattle.pr_expo.proofs.reader.read.Goals as goal

pub loop-draft-init : goal.loop-draft-init
loop-draft-init c = let s = starts c.args.bytes.now in search (rules, s)

pub take_line-requires : goal.take_line-requires
take_line-requires c = line_fits _ _ _ _ _ _ c.loop-draft.invariant c.requires c.next_line.ensures.within

pub loop-draft-preserved : goal.loop-draft-preserved
loop-draft-preserved c =
    goes_on_to _ _ c.next_line.result.0.now _ _ _ _ _ c.next_line.result.1 c.in-Some.next c.loop-draft.invariant c.in-Ok.ensures c.next_line.ensures.lines c.next_line.ensures.shorter c.in-Some.is

pub returns-in-Err : goal.returns-in-Err
returns-in-Err c = refuses_at _ _ c.next_line.result.0.now _ _ _ c.next_line.result.1 c.in-Err.error c.loop-draft.invariant c.next_line.ensures.lines c.in-Err.ensures

pub returns-in-None : goal.returns-in-None
returns-in-None c =
    ends_at _ _ c.next_line.result.0.now _ _ _ _ _ c.next_line.result.1 _ c.loop-draft.invariant c.in-Ok.ensures c.next_line.ensures.lines c.in-None.is c.in_ok-finished-in-None.ensures
