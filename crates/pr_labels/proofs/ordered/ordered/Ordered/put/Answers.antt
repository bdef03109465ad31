use Rattle.std.proofs.Common.{refl}
use Rattle.pr_labels.specs.private.Entries.{entries_of}
use Rattle.pr_labels.proofs.Behind.{placed_rising, pushed_rising, pushed_whole}
use Rattle.pr_labels.proofs.ordered.ordered.Ordered.put.Goals as goal

pub invariant_of-self-then-goes_behind : goal.invariant_of-self-then-goes_behind
invariant_of-self-then-goes_behind g c =
    pushed_rising c.deref.result.now c.self.inside.rising.items c.push.new.self.items c.self.inside.placed.entries c.args.labels c.args.value
    c.deref.ensures.value c.in_ok-push.ensures.items (c.if-goes_behind.ensures.none refl) (c.if-goes_behind.ensures.below refl) c.self.invariant

pub returns-then-goes_behind : goal.returns-then-goes_behind
returns-then-goes_behind g c =
    pushed_whole c.deref.result.now c.self.inside.rising.items c.push.new.self.items c.self.inside.placed.entries c.args.self.now c.args.labels c.args.value
    c.deref.ensures.value c.in_ok-push.ensures.items (c.if-goes_behind.ensures.none refl) (c.if-goes_behind.ensures.below refl) c.self.invariant c.self.view_is

pub invariant_of-self-2 : goal.invariant_of-self-2
invariant_of-self-2 g c =
    placed_rising c.place.result c.args.labels c.args.value c.move_all.new.rising.items c.move_all.new.placed.entries c.place.new.placed.entries (entries_of c.self.inside.rising.items c.self.inside.placed.entries)
    c.in_ok-move_all.ensures.empty c.in_ok-move_all.ensures.moved c.place.ensures.put c.place.ensures.same c.self.invariant
