-- Receivers of notices. Each has a stream, the list of all notices that were offered since it was
-- added, which never loses anything, and a place in it. All numbers here are an own choice.
use Rattle.std.specs.Prelude.{ℕ, ◌+◌, ◌-◌, ◌^◌, min, max, Bool, cond, nat_lt, List, [], ◌∷◌, ◌++◌, length, take, drop, map, find, Option}
use Rattle.std.specs.List.{list_any}
use Rattle.std.specs.Option.{option_map}
use Rattle.std.specs.Str.{bytes_eq}
use Rattle.spec_alerts.specs.declared.sending.Sending.{Sending}
use Rattle.spec_alerts.specs.declared.notices.batch.Batch.{Batch}
use Rattle.spec_alerts.specs.declared.notices.joined.Joined.{Joined}
use Rattle.spec_alerts.specs.declared.notices.joined.Joined.TheVariants.{New, Known, Full}

pub record Receiver : Type 0 where
  pub name : List ℕ
  pub stream : List Sending
  -- the place in the stream of the notice that it is given next
  pub next : ℕ
  -- how many notices that place was moved past by offers, since the receiver was last given a batch
  pub passed : ℕ

-- so many notices wait for a receiver at most, it is given so many at once, and there are at most so
-- many receivers
abbrev pub most_waiting : ℕ
most_waiting = 10000

abbrev pub most_at_once : ℕ
most_at_once = 64

abbrev pub most_receivers : ℕ
most_receivers = 64

-- a count goes no further
abbrev pub most_counted : ℕ
most_counted = 2 ^ 64 - 1

-- a receiver that was just added
abbrev pub receiver : List ℕ → Receiver
receiver name = record { name = name; stream = []; next = 0; passed = 0 }

-- where the place stands after an offer: it moves on where too many would wait
abbrev pub place_after : ℕ → List Sending → ℕ
place_after next stream = max next (length stream - most_waiting)

abbrev pub offered : List Sending → Receiver → Receiver
offered notices r = record {
  name = r.name;
  stream = r.stream ++ notices;
  next = place_after r.next (r.stream ++ notices);
  passed = r.passed + (place_after r.next (r.stream ++ notices) - r.next);
}

-- what the receiver is given next, and the receiver after that
abbrev pub given : Receiver → List Sending
given r = take most_at_once (drop r.next r.stream)

abbrev pub batch : Receiver → Batch
batch r = record { notices = given r; dropped = min most_counted r.passed }

abbrev pub flushed : Receiver → Receiver
flushed r = record { name = r.name; stream = r.stream; next = r.next + length (given r); passed = 0 }

-- All receivers

abbrev pub is_named : List ℕ → Receiver → Bool
is_named name r = bytes_eq r.name name

abbrev pub is_known : List ℕ → List Receiver → Bool
is_known name rs = list_any (is_named name) rs

-- what becomes of a name that is to be added
abbrev pub joins : List ℕ → List Receiver → Joined
joins name rs = cond (is_known name rs) Known (cond (nat_lt (length rs) most_receivers) New Full)

abbrev pub joined_by : Joined → List ℕ → List Receiver → List Receiver
joined_by New name rs = rs ++ receiver name ∷ []
joined_by Known name rs = rs
joined_by Full name rs = rs

abbrev pub after_add : List ℕ → List Receiver → List Receiver
after_add name rs = joined_by (joins name rs) name rs

abbrev pub after_offer : List Sending → List Receiver → List Receiver
after_offer notices rs = map (offered notices) rs

-- what the receiver of a name is given, where there is one
abbrev pub batch_of : List ℕ → List Receiver → Option Batch
batch_of name rs = option_map batch (find (is_named name) rs)

abbrev pub flushed_if : List ℕ → Receiver → Receiver
flushed_if name r = cond (is_named name r) (flushed r) r

abbrev pub after_flush : List ℕ → List Receiver → List Receiver
after_flush name rs = map (flushed_if name) rs

-- What receivers keep over all calls
