use Rattle.std.proofs.Common.{arith}
use Rattle.pr_queue.proofs.Rings.{taken}
use Rattle.pr_queue.proofs.queue.Queue.take_in.Goals as goal

pub returns : goal.returns
returns c =
    taken c.self.inside.name c.self.inside.ring c.append.new.ring c.self.inside.dropped c.saturating_add-self-inside.result c.args.count c.self.inside.coming.items
    c.replace.new.dest.items c.args.self.now c.self.view_is c.self.invariant (omega (arith, c.len-room.ensures.len, c.len-room.ensures.within.0))
    (rw c.replace.ensures.value at c.append.ensures) (rw c.replace.ensures.after c.new.ensures.items)
    (omega (arith, c.saturating_add-self-inside.ensures, c.saturating_sub-lost.ensures, c.len-room.ensures.len))
