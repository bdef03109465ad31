use Rattle.std.proofs.Common.{◌∙◌, ap, Some}
use Rattle.pr_queue.proofs.Stands.{batch_at, no_batch, place_in, stands_flushed, stands_unflushed}
use Rattle.pr_queue.proofs.notifier.Notifier.flush.Goals as goal

pub returns-in_ok-next_batch-in-Some-clause-batch :
    goal.returns-in_ok-next_batch-in-Some-clause-batch
returns-in_ok-next_batch-in-Some-clause-batch c rs s =
    let found = place_in c.args.name.now c.self.inside.queues.items _ _ c.deref.ensures.value c.place_of.ensures ∙ c.in-Some.is in
    ap Some c.in_ok-next_batch-in-Some.ensures.ok
    ∙ batch_at c.args.name.now c.self.inside.queues.items c.in-Some.place c.index_mut.result.now c.args.self.now rs c.self.view_is found c.index_mut.ensures.value s

pub returns-in_ok-next_batch-in-Some-clause-stands :
    goal.returns-in_ok-next_batch-in-Some-clause-stands
returns-in_ok-next_batch-in-Some-clause-stands c rs s =
    let found = place_in c.args.name.now c.self.inside.queues.items _ _ c.deref.ensures.value c.place_of.ensures ∙ c.in-Some.is in
    stands_flushed c.args.name.now c.self.inside.queues.items c.in-Some.place c.index_mut.result.now c.next_batch.new.self c.args.self.now rs c.self.view_is found
    c.index_mut.ensures.value c.in_ok-next_batch-in-Some.ensures.after s

pub returns-in-None-clause-batch : goal.returns-in-None-clause-batch
returns-in-None-clause-batch c rs s =
    no_batch c.args.name.now _ _ rs c.self.view_is (place_in c.args.name.now c.self.inside.queues.items _ _ c.deref.ensures.value c.place_of.ensures ∙ c.in-None.is) s

pub returns-in-None-clause-stands : goal.returns-in-None-clause-stands
returns-in-None-clause-stands c rs s =
    stands_unflushed c.args.name.now _ _ rs c.self.view_is (place_in c.args.name.now c.self.inside.queues.items _ _ c.deref.ensures.value c.place_of.ensures ∙ c.in-None.is) s
