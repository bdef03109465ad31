-- What a notifier stands for.
use Rattle.std.specs.Prelude.{◌≡◌, min, List, drop, map}
use Rattle.spec_alerts.specs.private.Laws.{AreReceivers}
use Rattle.spec_alerts.specs.Receivers.{Receiver, most_counted}
use Rattle.pr_queue.specs.private.Queues.{ReceiverQueue}

-- The queue of a receiver has what stands in its stream from its place on, and the count of what was
-- passed over since its last batch.
abbrev pub waiting_of : Receiver → ReceiverQueue
waiting_of r = record { name = r.name; notices = drop r.next r.stream; dropped = min most_counted r.passed }

-- The queues are those of these receivers, one for each.
pub record StandsFor (queues : List ReceiverQueue) (rs : List Receiver) : Type 0 where
  pub queued : queues ≡ map waiting_of rs
  pub receivers : AreReceivers rs
