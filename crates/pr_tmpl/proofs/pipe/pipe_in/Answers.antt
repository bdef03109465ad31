use Rattle.std.proofs.Common.{refl}
use Rattle.pr_tmpl.proofs.CallWays.{no_pipe, no_pipe_end, from_operand_gives, from_call_gives}
use Rattle.pr_tmpl.proofs.pipe.pipe_in.Goals as goal

pub returns-in_default-clause-read : goal.returns-in_default-clause-read
returns-in_default-clause-read c = no_pipe_end c.args.text.now c.blanks_in-at.result.now c.blanks_in-at.ensures.read c.in_default.ensures.read

pub returns-in-Quote-clause-read : goal.returns-in-Quote-clause-read
returns-in-Quote-clause-read c = from_operand_gives c.args.text.now c.blanks_in-at.result.now c.in-Some._rest.now c.in-Some.kind c.in-Some._byte c.empty.result c.from_operand.result c.empty.ensures c.blanks_in-at.ensures.read c.in-Some.ensures.read (rw c.in-Quote.is refl) c.from_operand.ensures.read

pub returns-in-Dollar-clause-read : goal.returns-in-Dollar-clause-read
returns-in-Dollar-clause-read c = from_operand_gives c.args.text.now c.blanks_in-at.result.now c.in-Some._rest.now c.in-Some.kind c.in-Some._byte c.empty-in-Dollar.result c.from_operand-in-Dollar.result c.empty-in-Dollar.ensures c.blanks_in-at.ensures.read c.in-Some.ensures.read (rw c.in-Dollar.is refl) c.from_operand-in-Dollar.ensures.read

pub returns-in-Point-clause-read : goal.returns-in-Point-clause-read
returns-in-Point-clause-read c = from_operand_gives c.args.text.now c.blanks_in-at.result.now c.in-Some._rest.now c.in-Some.kind c.in-Some._byte c.empty-in-Point.result c.from_operand-in-Point.result c.empty-in-Point.ensures c.blanks_in-at.ensures.read c.in-Some.ensures.read (rw c.in-Point.is refl) c.from_operand-in-Point.ensures.read

pub returns-in-SmallP-clause-read : goal.returns-in-SmallP-clause-read
returns-in-SmallP-clause-read c = from_call_gives c.args.text.now c.blanks_in-at.result.now c.in-Some._rest.now c.in-Some.kind c.in-Some._byte c.from_call.result c.blanks_in-at.ensures.read c.in-Some.ensures.read (rw c.in-SmallP.is refl) c.from_call.ensures.read

pub returns-in-SmallH-clause-read : goal.returns-in-SmallH-clause-read
returns-in-SmallH-clause-read c = from_call_gives c.args.text.now c.blanks_in-at.result.now c.in-Some._rest.now c.in-Some.kind c.in-Some._byte c.from_call-in-SmallH.result c.blanks_in-at.ensures.read c.in-Some.ensures.read (rw c.in-SmallH.is refl) c.from_call-in-SmallH.ensures.read

pub returns-in_default-kind : goal.returns-in_default-kind
returns-in_default-kind c = record { read = no_pipe c.args.text.now c.blanks_in-at.result.now c.in-Some._rest.now c.in-Some.kind c.in-Some._byte c.blanks_in-at.ensures.read c.in-Some.ensures.read c.in_default-kind.not-Quote c.in_default-kind.not-Dollar c.in_default-kind.not-Point c.in_default-kind.not-SmallP c.in_default-kind.not-SmallH; shorter = tt; text = tt }
