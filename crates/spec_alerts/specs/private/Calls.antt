-- What calls come to, one after another.
use Rattle.std.specs.Prelude.{ℕ, Bool, true, false, cond, List, [], ◌∷◌, ◌++◌, flat_map, fold, Option}
use Rattle.std.specs.List.{list_any}
use Rattle.std.specs.Option.{option_to_list}
use Rattle.std.specs.Str.{bytes_eq}
use Rattle.spec_alerts.specs.declared.sending.Sending.{Sending}
use Rattle.spec_alerts.specs.declared.notices.batch.Batch.{Batch}
use Rattle.spec_alerts.specs.declared.notices.joined.Joined.{Joined}
use Rattle.spec_alerts.specs.Receivers.{Receiver, after_add, after_flush, after_offer, batch_of, joins}

-- a name is added, notices are offered to all receivers, the receiver of a name is given what waits
-- for it, or all receivers are forgotten
pub data Call : Type 0 where
  add : List ℕ → Call
  offer : List Sending → Call
  flush : List ℕ → Call
  clear : Call

-- the receivers after a call, and after calls
abbrev pub after : List Receiver → Call → List Receiver
after rs (add name) = after_add name rs
after rs (offer notices) = after_offer notices rs
after rs (flush name) = after_flush name rs
after rs clear = []

abbrev pub after_all : List Receiver → List Call → List Receiver
after_all rs calls = fold after rs calls

-- what is answered to a call
pub data ReceiverAnswer : Type 0 where
  joined : Joined → ReceiverAnswer
  done : ReceiverAnswer
  batched : Option Batch → ReceiverAnswer

abbrev pub answer : List Receiver → Call → ReceiverAnswer
answer rs (add name) = joined (joins name rs)
answer rs (offer notices) = done
answer rs (flush name) = batched (batch_of name rs)
answer rs clear = done

-- what is answered to calls, from these receivers on
abbrev pub answers : List Receiver → List Call → List ReceiverAnswer
answers rs [] = []
answers rs (call ∷ calls) = answer rs call ∷ answers (after rs call) calls

-- the batches of one name

abbrev pub batches_at : List ℕ → List Receiver → Call → List Batch
batches_at name rs (add other) = []
batches_at name rs (offer notices) = []
batches_at name rs (flush other) = cond (bytes_eq other name) (option_to_list (batch_of other rs)) []
batches_at name rs clear = []

abbrev pub batches : List ℕ → List Receiver → List Call → List Batch
batches name rs [] = []
batches name rs (call ∷ calls) = batches_at name rs call ++ batches name (after rs call) calls

-- all notices that calls offer
abbrev pub offered_at : Call → List Sending
offered_at (add name) = []
offered_at (offer notices) = notices
offered_at (flush name) = []
offered_at clear = []

abbrev pub offers : List Call → List Sending
offers calls = flat_map offered_at calls

abbrev pub is_clear : Call → Bool
is_clear (add name) = false
is_clear (offer notices) = false
is_clear (flush name) = false
is_clear clear = true

abbrev pub forgets : List Call → Bool
forgets calls = list_any is_clear calls
