use Rattle.pr_labels.specs.private.Entries.{entries_of}
use Rattle.pr_labels.proofs.Behind.{lost_step, moved_step}
use Rattle.pr_labels.proofs.ordered.places.move_all.Goals as goal

pub returns-in_err-insert-clause-rising : goal.returns-in_err-insert-clause-rising
returns-in_err-insert-clause-rising g c =
    lost_step c.loop-item.rising.items c.pop.new.self.items c.in-Some.item c.loop-item.placed.entries c.insert.new.self.entries (entries_of c.args.rising.now.items c.args.placed.now.entries)
    c.in-Some.ensures.items c.loop-item.invariant c.requires c.in_err-insert.ensures.err

pub loop-item-preserved-in_ok-insert : goal.loop-item-preserved-in_ok-insert
loop-item-preserved-in_ok-insert g c =
    moved_step c.loop-item.rising.items c.pop.new.self.items c.in-Some.item c.loop-item.placed.entries c.insert.new.self.entries (entries_of c.args.rising.now.items c.args.placed.now.entries)
    c.in-Some.ensures.items c.loop-item.invariant c.requires c.in_ok-insert.ensures.entries

pub loop-item-preserved : goal.loop-item-preserved
loop-item-preserved g c =
    moved_step c.loop-item.rising.items c.pop.new.self.items c.in-Some.item c.loop-item.placed.entries c.insert.new.self.entries (entries_of c.args.rising.now.items c.args.placed.now.entries)
    c.in-Some.ensures.items c.loop-item.invariant c.requires c.in_ok-insert.ensures.entries
