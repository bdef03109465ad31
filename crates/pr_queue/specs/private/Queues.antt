-- What stands in queues. Contracts of private functions cite this; what it means is said in `Standing`.
use Rattle.std.specs.Prelude.{ℕ, ◌+◌, ◌-◌, min, Bool, List, [], ◌++◌, length, take, drop, map}
use Rattle.std.specs.Str.{bytes_eq}
use Rattle.circular_buffer.specs.Buffer.{keep_last}
use Rattle.spec_alerts.specs.declared.sending.Sending.{Sending}
use Rattle.spec_alerts.specs.declared.notices.batch.Batch.{Batch}
use Rattle.spec_alerts.specs.Receivers.{most_at_once, most_counted, most_waiting}

-- the queue of a receiver: its name, the notices that wait, and how many were lost since its last batch
pub record ReceiverQueue : Type 0 where
  pub name : List ℕ
  pub notices : List Sending
  pub dropped : ℕ

-- a queue, and the notices that are about to be put into it
pub record Queued : Type 0 where
  pub waiting : ReceiverQueue
  pub coming : List Sending

abbrev pub waiting_in : List Queued → List ReceiverQueue
waiting_in qs = map (λ q. q.waiting) qs

abbrev pub is_for : List ℕ → ReceiverQueue → Bool
is_for name w = bytes_eq w.name name

abbrev pub is_queue_for : List ℕ → Queued → Bool
is_queue_for name q = is_for name q.waiting

abbrev pub empty_queue : List ℕ → ReceiverQueue
empty_queue name = record { name = name; notices = []; dropped = 0 }

-- after so many notices were offered, of which these are the last
abbrev pub with_last : List Sending → ℕ → ReceiverQueue → ReceiverQueue
with_last notices count w = record {
  name = w.name;
  notices = keep_last most_waiting (w.notices ++ notices);
  dropped = min most_counted (w.dropped + ((length w.notices + count) - most_waiting));
}

abbrev pub with_offered : List Sending → ReceiverQueue → ReceiverQueue
with_offered notices w = with_last notices (length notices) w

abbrev pub next_batch : ReceiverQueue → Batch
next_batch w = record { notices = take most_at_once w.notices; dropped = w.dropped }

abbrev pub without_batch : ReceiverQueue → ReceiverQueue
without_batch w = record { name = w.name; notices = drop most_at_once w.notices; dropped = 0 }

-- before what comes is put in, and after it
abbrev pub with_coming : List Sending → Queued → Queued
with_coming notices q = record { waiting = q.waiting; coming = notices }

abbrev pub taken_in : ℕ → Queued → Queued
taken_in count q = record { waiting = with_last q.coming count q.waiting; coming = [] }
