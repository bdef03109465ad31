-- What a receiver was given since it was added, against its stream.
use Rattle.std.specs.Prelude.{◌≡◌, ℕ, ◌≤◌, min, List, ◌++◌, length, take, map, find, flat_map, Some}
use Rattle.spec_alerts.specs.declared.sending.Sending.{Sending}
use Rattle.spec_alerts.specs.declared.notices.batch.Batch.{Batch}
use Rattle.spec_alerts.specs.private.Calls.{Call, offers}
use Rattle.spec_alerts.specs.Receivers.{Receiver, is_named, most_counted}

-- a piece of a stream: notices that were passed over, and those that were given after them
pub record Part : Type 0 where
  pub passed : List Sending
  pub given : List Sending

abbrev pub part_notices : Part → List Sending
part_notices p = p.passed ++ p.given

-- the batch of a part: what was given, and how many were passed over
abbrev pub part_batch : Part → Batch
part_batch p = record { notices = p.given; dropped = min most_counted (length p.passed) }

-- The batches that a receiver was given account for its stream up to its place: the stream is made of
-- one part a batch, in order, and of what was passed over since the last one.
pub record AccountsFor (batches : List Batch) (r : Receiver) : Type 0 where
  pub parts : List Part
  pub passed : List Sending
  pub batched : batches ≡ map part_batch parts
  pub whole : flat_map part_notices parts ++ passed ≡ take r.next r.stream
  pub counted : length passed ≡ r.passed
  pub within : r.next ≤ length r.stream

-- The receiver of a name after calls that began when it was added: its stream is all that they offered,
-- and the batches account for it.
pub record IsAccounted (name : List ℕ) (calls : List Call) (rs : List Receiver) (batches : List Batch) : Type 0 where
  pub receiver : Receiver
  pub found : find (is_named name) rs ≡ Some receiver
  pub stream : receiver.stream ≡ offers calls
  pub accounts : AccountsFor batches receiver
