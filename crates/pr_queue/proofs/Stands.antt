-- What queues stand for, before calls and after them.
use Rattle.std.proofs.Common.{◌≡◌, ℕ, ◌+◌, ◌-◌, ◌<◌, ◌≤◌, min, Bool, true, false, cond, List, [], ◌∷◌, ◌++◌, length, drop, map, get_or, set, Option, Some, None, is_some, nat_lt, sym, ap, ◌∙◌, refl, subst, arith, length-append, length-drop}
use Rattle.std.specs.List.{AllByRecursion, find, list_any, position}
use Rattle.std.specs.Option.{option_map}
use Rattle.std.proofs.lemmas.List.{drop-append-le, drop-drop, drop_min, length-map, length-take, map-append}
use Rattle.std.proofs.lemmas.Bool.Decides.{nat_tests}
use Rattle.circular_buffer.specs.Buffer.{keep_last}
use Rattle.spec_alerts.specs.declared.sending.Sending.{Sending}
use Rattle.spec_alerts.specs.declared.notices.joined.Joined.{Joined}
use Rattle.spec_alerts.specs.declared.notices.joined.Joined.TheVariants.{New, Known, Full}
use Rattle.spec_alerts.specs.private.Calls.{offer, flush}
use Rattle.spec_alerts.specs.private.Laws.{IsInStream, NamesDiffer}
use Rattle.spec_alerts.specs.Receivers.{Receiver, after_add, after_flush, after_offer, batch, batch_of, flushed, flushed_if, given, is_known, is_named, joined_by, joins, most_at_once, most_counted, most_receivers, most_waiting, offered, place_after, receiver}
use Rattle.spec_alerts.proofs.Kept.{kept_add, kept_after}
use Rattle.spec_alerts.proofs.Names.{find_none, left_false, right_false, same_bytes}
use Rattle.pr_queue.specs.private.Queues.{Queued, ReceiverQueue, empty_queue, is_for, is_queue_for, next_batch, taken_in, waiting_in, with_coming, with_last, without_batch}
use Rattle.pr_queue.specs.private.Standing.{StandsFor, waiting_of}
use Rattle.pr_queue.proofs.Lists.{at_first, find_at, is_some-position, keep_last-drop, keep_last_behind, same_drop, set_first}

-- lists of other things

list_any_in : {X Y : Type 0} (p : Y → Bool) (f : X → Y) (xs : List X) → list_any p (map f xs) ≡ list_any (λ x. p (f x)) xs
list_any_in p f [] = refl
list_any_in p f (x ∷ xs) = rw (list_any_in p f xs) refl

find_in : {X Y : Type 0} (p : Y → Bool) (f : X → Y) (xs : List X) → find p (map f xs) ≡ option_map f (find (λ x. p (f x)) xs)
find_in p f [] = refl
find_in {X} {Y} p f (x ∷ xs) = by (p (f x)) (find_in p f xs) where
  by : (b : Bool) → find p (map f xs) ≡ option_map f (find (λ x. p (f x)) xs)
      → cond b (Some (f x)) (find p (map f xs)) ≡ option_map f (cond b (Some x) (find (λ x. p (f x)) xs))
  by true later = refl
  by false later = later

-- names

pub known_in : (name : List ℕ) (qs : List Queued) (ws : List ReceiverQueue) (rs : List Receiver) → waiting_in qs ≡ ws → StandsFor ws rs
    → is_some (position (is_queue_for name) qs) ≡ is_known name rs
known_in name qs ws rs is s =
    is_some-position (is_queue_for name) qs ∙ sym (list_any_in (is_for name) (λ q. q.waiting) qs) ∙ ap (list_any (is_for name)) (is ∙ s.queued) ∙ list_any_in (is_for name) waiting_of rs

-- what is found among queues that are lent
pub place_in : (name : List ℕ) (qs lent : List Queued) (place : Option ℕ) → lent ≡ qs → place ≡ position (is_queue_for name) lent → position (is_queue_for name) qs ≡ place
place_in name qs lent place is h = sym (h ∙ ap (position (is_queue_for name)) is)

pub is_some-place : (name : List ℕ) (qs lent : List Queued) (place : Option ℕ) (b t : Bool) → lent ≡ qs → place ≡ position (is_queue_for name) lent → b ≡ is_some place → b ≡ t
    → is_some (position (is_queue_for name) qs) ≡ t
is_some-place name qs lent place b t is h e f = ap is_some (place_in name qs lent place is h) ∙ sym e ∙ f

pub many_in : (qs : List Queued) (ws : List ReceiverQueue) (rs : List Receiver) → waiting_in qs ≡ ws → StandsFor ws rs → length qs ≡ length rs
many_in qs ws rs is s = sym (length-map qs (λ q. q.waiting)) ∙ ap length (is ∙ s.queued) ∙ length-map rs waiting_of

joins_known : (name : List ℕ) (rs : List Receiver) → is_known name rs ≡ true → joins name rs ≡ Known
joins_known name rs h = ap (λ b. cond b Known (cond (nat_lt (length rs) most_receivers) New Full)) h

joins_by : (name : List ℕ) (rs : List Receiver) (b : Bool) → is_known name rs ≡ false → nat_lt (length rs) most_receivers ≡ b → joins name rs ≡ cond b New Full
joins_by name rs b h e = ap (λ b. cond b Known (cond (nat_lt (length rs) most_receivers) New Full)) h ∙ ap (λ b. cond b New Full) e

pub is_known_joined : (name : List ℕ) (qs : List Queued) (ws : List ReceiverQueue) (rs : List Receiver) → waiting_in qs ≡ ws
    → is_some (position (is_queue_for name) qs) ≡ true → StandsFor ws rs → joins name rs ≡ Known
is_known_joined name qs ws rs is h s = joins_known name rs (sym (known_in name qs ws rs is s) ∙ h)

pub is_full_joined : (name : List ℕ) (qs : List Queued) (ws : List ReceiverQueue) (rs : List Receiver) → waiting_in qs ≡ ws
    → is_some (position (is_queue_for name) qs) ≡ false → most_receivers ≤ length qs → StandsFor ws rs → joins name rs ≡ Full
is_full_joined name qs ws rs is h most s =
    joins_by name rs false (sym (known_in name qs ws rs is s) ∙ h) (let e : length qs ≡ length rs = many_in qs ws rs is s in grind (arith, nat_tests))

pub is_new_joined : (name : List ℕ) (qs : List Queued) (ws : List ReceiverQueue) (rs : List Receiver) → waiting_in qs ≡ ws
    → is_some (position (is_queue_for name) qs) ≡ false → length qs < most_receivers → StandsFor ws rs → joins name rs ≡ New
is_new_joined name qs ws rs is h few s =
    joins_by name rs true (sym (known_in name qs ws rs is s) ∙ h) (let e : length qs ≡ length rs = many_in qs ws rs is s in grind (arith, nat_tests))

-- a name that is not new changes nothing
pub stays : (name : List ℕ) (ws : List ReceiverQueue) (rs : List Receiver) (j : Joined) → joins name rs ≡ j → joined_by j name rs ≡ rs → StandsFor ws rs → StandsFor ws (after_add name rs)
stays name ws rs j e same s = subst (λ l. StandsFor ws l) (sym (ap (λ k. joined_by k name rs) e ∙ same)) s

-- a new receiver
pub stands_added : (name : List ℕ) (qs : List Queued) (q : Queued) (ws : List ReceiverQueue) (rs : List Receiver) → waiting_in qs ≡ ws → q.waiting ≡ empty_queue name
    → joins name rs ≡ New → StandsFor ws rs → StandsFor (waiting_in (qs ++ q ∷ [])) (after_add name rs)
stands_added name qs q ws rs is new e s = record {
  queued = map-append (λ q. q.waiting) qs (q ∷ []) ∙ ap (λ l. l ++ q.waiting ∷ []) (is ∙ s.queued) ∙ ap (λ w. map waiting_of rs ++ w ∷ []) new
      ∙ sym (map-append waiting_of rs (receiver name ∷ [])) ∙ sym (ap (λ j. map waiting_of (joined_by j name rs)) e);
  receivers = kept_add name rs s.receivers;
}

-- an offer

offered_alike : (notices : List Sending) (r : Receiver) → IsInStream r → with_last (keep_last most_waiting notices) (length notices) (waiting_of r) ≡ waiting_of (offered notices r)
offered_alike notices r h =
    ap (λ l. record { name = r.name; notices = l; dropped = counted }) waits ∙ ap (λ n. record { name = r.name; notices = after; dropped = n }) counts where
      after : List Sending
      after = drop (place_after r.next (r.stream ++ notices)) (r.stream ++ notices)

      counted : ℕ
      counted = min most_counted (min most_counted r.passed + ((length (drop r.next r.stream) + length notices) - most_waiting))

      place : r.next + ((length (r.stream ++ notices) - r.next) - most_waiting) ≡ place_after r.next (r.stream ++ notices)
      place = omega (arith, length-append r.stream notices, h.within)

      waits : keep_last most_waiting (drop r.next r.stream ++ keep_last most_waiting notices) ≡ after
      waits =
          keep_last_behind most_waiting (drop r.next r.stream) notices ∙ ap (keep_last most_waiting) (sym (drop-append-le r.next r.stream notices h.within))
          ∙ keep_last-drop most_waiting r.next (r.stream ++ notices) (omega (arith, length-append r.stream notices, h.within)) ∙ same_drop _ _ (r.stream ++ notices) place

      counts : counted ≡ min most_counted (r.passed + (place_after r.next (r.stream ++ notices) - r.next))
      counts = omega (arith, length-drop r.next r.stream, length-append r.stream notices, h.within)

all_offered : (notices : List Sending) (rs : List Receiver) → AllByRecursion IsInStream rs
    → map (with_last (keep_last most_waiting notices) (length notices)) (map waiting_of rs) ≡ map waiting_of (map (offered notices) rs)
all_offered notices [] h = refl
all_offered notices (r ∷ rs) h = ap (λ w. w ∷ map (with_last (keep_last most_waiting notices) (length notices)) (map waiting_of rs)) (offered_alike notices r h.0)
    ∙ ap (λ l. waiting_of (offered notices r) ∷ l) (all_offered notices rs h.1)

waiting_taken : (last : List Sending) (count : ℕ) (qs : List Queued) → waiting_in (map (taken_in count) (map (with_coming last) qs)) ≡ map (with_last last count) (waiting_in qs)
waiting_taken last count [] = refl
waiting_taken last count (q ∷ qs) = ap (λ l. with_last last count q.waiting ∷ l) (waiting_taken last count qs)

pub stands_offered : (notices last : List Sending) (qs before after : List Queued) (ws : List ReceiverQueue) (rs : List Receiver) → waiting_in qs ≡ ws
    → last ≡ keep_last most_waiting notices → before ≡ map (with_coming last) qs → after ≡ map (taken_in (length notices)) before
    → StandsFor ws rs → StandsFor (waiting_in after) (after_offer notices rs)
stands_offered notices last qs before after ws rs is lasts b a s = record {
  queued = ap waiting_in (a ∙ ap (map (taken_in (length notices))) b) ∙ waiting_taken last (length notices) qs
      ∙ ap (λ l. map (with_last l (length notices)) (waiting_in qs)) lasts ∙ ap (map (with_last (keep_last most_waiting notices) (length notices))) (is ∙ s.queued)
      ∙ all_offered notices rs s.receivers.places;
  receivers = kept_after rs (offer notices) s.receivers;
}

-- without receivers
pub stands_empty : (notices : List Sending) (qs : List Queued) (ws : List ReceiverQueue) (rs : List Receiver) → waiting_in qs ≡ ws → length qs ≡ 0
    → StandsFor ws rs → StandsFor ws (after_offer notices rs)
stands_empty notices qs ws [] is none s = s
stands_empty notices qs ws (r ∷ rs) is none s = absurd (let e : length qs ≡ length (r ∷ rs) = many_in qs ws (r ∷ rs) is s in omega arith)

-- a flush

flushed_alike : (r : Receiver) → waiting_of (flushed r) ≡ without_batch (waiting_of r)
flushed_alike r = ap (λ l. record { name = r.name; notices = l; dropped = 0 }) waits where
  waits : drop (r.next + length (given r)) r.stream ≡ drop most_at_once (drop r.next r.stream)
  waits = sym (drop-drop (length (given r)) r.next r.stream) ∙ ap (λ k. drop k (drop r.next r.stream)) (length-take most_at_once (drop r.next r.stream))
      ∙ drop_min most_at_once (drop r.next r.stream)

-- what is found for a name
batch_alike : (o : Option Receiver) → option_map next_batch (option_map waiting_of o) ≡ option_map batch o
batch_alike None = refl
batch_alike (Some r) = refl

found_waiting : (name : List ℕ) (qs : List Queued) (ws : List ReceiverQueue) (rs : List Receiver) → waiting_in qs ≡ ws → StandsFor ws rs
    → option_map (λ q. next_batch q.waiting) (find (is_queue_for name) qs) ≡ batch_of name rs
found_waiting name qs ws rs is s =
    by (find (is_queue_for name) qs) ∙ ap (option_map next_batch) (sym (find_in (is_for name) (λ q. q.waiting) qs) ∙ ap (find (is_for name)) (is ∙ s.queued) ∙ find_in (is_for name) waiting_of rs)
    ∙ batch_alike (find (is_named name) rs) where
      by : (o : Option Queued) → option_map (λ q. next_batch q.waiting) o ≡ option_map next_batch (option_map (λ q. q.waiting) o)
      by None = refl
      by (Some q) = refl

pub batch_at : (name : List ℕ) (qs : List Queued) (i : ℕ) (q : Queued) (ws : List ReceiverQueue) (rs : List Receiver) → waiting_in qs ≡ ws → position (is_queue_for name) qs ≡ Some i
    → q ≡ get_or qs i q → StandsFor ws rs → Some (next_batch q.waiting) ≡ batch_of name rs
batch_at name qs i q ws rs is h e s = sym (ap (option_map (λ q. next_batch q.waiting)) (find_at (is_queue_for name) qs i q h e)) ∙ found_waiting name qs ws rs is s

-- where the names differ, the first receiver of a name is the only one
others_stay : (name : List ℕ) (rs : List Receiver) → is_known name rs ≡ false → map (flushed_if name) rs ≡ rs
others_stay name [] h = refl
others_stay name (r ∷ rs) h =
    ap (λ b. cond b (flushed r) r ∷ map (flushed_if name) rs) (left_false (is_named name r) (is_known name rs) h)
    ∙ ap (λ l. r ∷ l) (others_stay name rs (right_false (is_named name r) (is_known name rs) h))

only_first : (name : List ℕ) (rs : List Receiver) → NamesDiffer rs → map (flushed_if name) rs ≡ at_first (is_named name) flushed rs
only_first name [] h = refl
only_first name (r ∷ rs) h = by (is_named name r) refl (only_first name rs h.1) where
  by : (b : Bool) → is_named name r ≡ b → map (flushed_if name) rs ≡ at_first (is_named name) flushed rs
      → cond b (flushed r) r ∷ map (flushed_if name) rs ≡ cond b (flushed r ∷ rs) (r ∷ at_first (is_named name) flushed rs)
  by true e rest = ap (λ l. flushed r ∷ l) (others_stay name rs (sym (ap (λ n. is_known n rs) (same_bytes r.name name e)) ∙ h.0))
  by false e rest = ap (λ l. r ∷ l) rest

first_alike : (name : List ℕ) (rs : List Receiver) → map waiting_of (at_first (is_named name) flushed rs) ≡ at_first (is_for name) without_batch (map waiting_of rs)
first_alike name [] = refl
first_alike name (r ∷ rs) = by (is_named name r) (first_alike name rs) where
  by : (b : Bool) → map waiting_of (at_first (is_named name) flushed rs) ≡ at_first (is_for name) without_batch (map waiting_of rs)
      → map waiting_of (cond b (flushed r ∷ rs) (r ∷ at_first (is_named name) flushed rs))
      ≡ cond b (without_batch (waiting_of r) ∷ map waiting_of rs) (waiting_of r ∷ at_first (is_for name) without_batch (map waiting_of rs))
  by true rest = ap (λ w. w ∷ map waiting_of rs) (flushed_alike r)
  by false rest = ap (λ l. waiting_of r ∷ l) rest

-- the queue of a name is changed, and what it has ready
abbrev emptied : List Sending → Queued → Queued
emptied coming q = record { waiting = without_batch q.waiting; coming = coming }

waiting_emptied : (name : List ℕ) (coming : List Sending) (qs : List Queued)
    → waiting_in (at_first (is_queue_for name) (emptied coming) qs) ≡ at_first (is_for name) without_batch (waiting_in qs)
waiting_emptied name coming [] = refl
waiting_emptied name coming (q ∷ qs) = by (is_queue_for name q) (waiting_emptied name coming qs) where
  by : (b : Bool) → waiting_in (at_first (is_queue_for name) (emptied coming) qs) ≡ at_first (is_for name) without_batch (waiting_in qs)
      → waiting_in (cond b (emptied coming q ∷ qs) (q ∷ at_first (is_queue_for name) (emptied coming) qs))
      ≡ cond b (without_batch q.waiting ∷ waiting_in qs) (q.waiting ∷ at_first (is_for name) without_batch (waiting_in qs))
  by true rest = refl
  by false rest = ap (λ l. q.waiting ∷ l) rest

pub stands_flushed : (name : List ℕ) (qs : List Queued) (i : ℕ) (q after : Queued) (ws : List ReceiverQueue) (rs : List Receiver) → waiting_in qs ≡ ws
    → position (is_queue_for name) qs ≡ Some i → q ≡ get_or qs i q → after.waiting ≡ without_batch q.waiting
    → StandsFor ws rs → StandsFor (waiting_in (set qs i after)) (after_flush name rs)
stands_flushed name qs i q after ws rs is h e a s = record {
  queued = ap waiting_in (set_first (is_queue_for name) (emptied after.coming) qs i q after h e (ap (λ w. record { waiting = w; coming = after.coming }) a))
      ∙ waiting_emptied name after.coming qs ∙ ap (at_first (is_for name) without_batch) (is ∙ s.queued) ∙ sym (first_alike name rs)
      ∙ ap (map waiting_of) (sym (only_first name rs s.receivers.differ));
  receivers = kept_after rs (flush name) s.receivers;
}

-- no queue has the name

unknown : (name : List ℕ) (qs : List Queued) (ws : List ReceiverQueue) (rs : List Receiver) → waiting_in qs ≡ ws → position (is_queue_for name) qs ≡ None
    → StandsFor ws rs → is_known name rs ≡ false
unknown name qs ws rs is h s = sym (known_in name qs ws rs is s) ∙ ap is_some h

pub no_batch : (name : List ℕ) (qs : List Queued) (ws : List ReceiverQueue) (rs : List Receiver) → waiting_in qs ≡ ws → position (is_queue_for name) qs ≡ None
    → StandsFor ws rs → None ≡ batch_of name rs
no_batch name qs ws rs is h s = sym (ap (option_map batch) (find_none (is_named name) rs (unknown name qs ws rs is h s)))

pub stands_unflushed : (name : List ℕ) (qs : List Queued) (ws : List ReceiverQueue) (rs : List Receiver) → waiting_in qs ≡ ws → position (is_queue_for name) qs ≡ None
    → StandsFor ws rs → StandsFor ws (after_flush name rs)
stands_unflushed name qs ws rs is h s = subst (λ l. StandsFor ws l) (sym (others_stay name rs (unknown name qs ws rs is h s))) s
