use Rattle.std.proofs.Common.{sym, refl, subst, arith}
use Rattle.spec_alerts.specs.declared.notices.joined.Joined.TheVariants.{Known, Full}
use Rattle.spec_alerts.specs.Receivers.{after_add}
use Rattle.pr_queue.specs.private.Queues.{waiting_in}
use Rattle.pr_queue.specs.private.Standing.{StandsFor}
use Rattle.pr_queue.proofs.Stands.{is_full_joined, is_known_joined, is_new_joined, is_some-place, stands_added, stays}
use Rattle.pr_queue.proofs.notifier.Notifier.add.Goals as goal

pub returns-then-is_some-clause-joined : goal.returns-then-is_some-clause-joined
returns-then-is_some-clause-joined c rs s =
    let found = is_some-place c.args.name.now c.self.inside.queues.items _ _ _ _ c.deref.ensures.value c.place_of.ensures c.is_some.ensures c.if-is_some.true in
    sym (is_known_joined _ _ _ rs c.self.view_is found s)

pub returns-then-is_some-clause-stands : goal.returns-then-is_some-clause-stands
returns-then-is_some-clause-stands c rs s =
    let found = is_some-place c.args.name.now c.self.inside.queues.items _ _ _ _ c.deref.ensures.value c.place_of.ensures c.is_some.ensures c.if-is_some.true in
    stays _ _ rs Known (is_known_joined _ _ _ rs c.self.view_is found s) refl s

pub returns-then-len-ge-MOST_RECEIVERS-clause-joined :
    goal.returns-then-len-ge-MOST_RECEIVERS-clause-joined
returns-then-len-ge-MOST_RECEIVERS-clause-joined c rs s =
    let found = is_some-place c.args.name.now c.self.inside.queues.items _ _ _ _ c.deref.ensures.value c.place_of.ensures c.is_some.ensures c.if-is_some.false in
    sym (is_full_joined _ _ _ rs c.self.view_is found (omega (arith, c.len.ensures)) s)

pub returns-then-len-ge-MOST_RECEIVERS-clause-stands :
    goal.returns-then-len-ge-MOST_RECEIVERS-clause-stands
returns-then-len-ge-MOST_RECEIVERS-clause-stands c rs s =
    let found = is_some-place c.args.name.now c.self.inside.queues.items _ _ _ _ c.deref.ensures.value c.place_of.ensures c.is_some.ensures c.if-is_some.false in
    stays _ _ rs Full (is_full_joined _ _ _ rs c.self.view_is found (omega (arith, c.len.ensures)) s) refl s

pub returns-clause-joined : goal.returns-clause-joined
returns-clause-joined c rs s =
    let found = is_some-place c.args.name.now c.self.inside.queues.items _ _ _ _ c.deref.ensures.value c.place_of.ensures c.is_some.ensures c.if-is_some.false in
    sym (is_new_joined _ _ _ rs c.self.view_is found (omega (arith, c.len.ensures)) s)

pub returns-clause-stands : goal.returns-clause-stands
returns-clause-stands c rs s =
    let found = is_some-place c.args.name.now c.self.inside.queues.items _ _ _ _ c.deref.ensures.value c.place_of.ensures c.is_some.ensures c.if-is_some.false in
    let e = is_new_joined _ _ _ rs c.self.view_is found (omega (arith, c.len.ensures)) s in
    subst (λ qs. StandsFor (waiting_in qs) (after_add c.args.name.now rs)) (sym c.in_ok-push.ensures.items) (stands_added _ _ c.in_ok-queue.queue _ rs c.self.view_is c.in_ok-queue.ensures e s)
