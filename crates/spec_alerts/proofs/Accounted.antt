-- What a receiver was given accounts for its stream.
use Rattle.std.proofs.Common.{◌≡◌, ℕ, ◌+◌, ◌-◌, ◌≤◌, min, Bool, true, false, cond, nat_lt, List, [], ◌∷◌, ◌++◌, length, take, drop, map, Some, None, sym, ap, ◌∙◌, refl, subst, arith, append_assoc, append-nil, length-append, length-drop}
use Rattle.std.specs.Prelude.{flat_map}
use Rattle.std.specs.List.{find}
use Rattle.std.specs.Option.{option_map, option_or, option_to_list}
use Rattle.std.specs.Str.{bytes_eq}
use Rattle.std.proofs.Math.Seq.{take-add}
use Rattle.std.proofs.lemmas.List.{length-take, map-append, take-append-le, take_min}
use Rattle.std.proofs.lemmas.List.Concat.{flat_map-append}
use Rattle.std.proofs.lemmas.List.Folds.{find-append}
use Rattle.spec_alerts.specs.declared.sending.Sending.{Sending}
use Rattle.spec_alerts.specs.declared.notices.batch.Batch.{Batch}
use Rattle.spec_alerts.specs.declared.notices.joined.Joined.{Joined}
use Rattle.spec_alerts.specs.declared.notices.joined.Joined.TheVariants.{New, Known, Full}
use Rattle.spec_alerts.specs.private.Accounts.{AccountsFor, IsAccounted, Part, part_batch, part_notices}
use Rattle.spec_alerts.specs.private.Calls.{Call, add, offer, flush, clear, after, after_all, batches, batches_at, forgets, is_clear, offered_at, offers}
use Rattle.spec_alerts.specs.Receivers.{Receiver, after_add, batch, batch_of, flushed, flushed_if, given, is_known, is_named, joined_by, joins, most_at_once, most_counted, most_receivers, offered, place_after, receiver}
use Rattle.spec_history.proofs.LabelsLabelLaws.{alike}
use Rattle.spec_alerts.proofs.Kept.{length-given, name-flushed_if}
use Rattle.spec_alerts.proofs.Names.{find-map, find_none, left_false, passes_found, right_false, same_bytes, turned}

of_new : (name : List ℕ) → AccountsFor [] (receiver name)
of_new name = record { parts = []; passed = []; batched = refl; whole = refl; counted = refl; within = omega arith }

-- a longer front of a list
longer : {X : Type 0} (n m : ℕ) (xs : List X) → n ≤ m → take n xs ++ take (m - n) (drop n xs) ≡ take m xs
longer n m xs h = let e : n + (m - n) ≡ m = omega arith in sym (take-add n (m - n) xs) ∙ ap (λ k. take k xs) e

-- what an offer passes over
skipped : List Sending → Receiver → List Sending
skipped notices r = take (place_after r.next (r.stream ++ notices) - r.next) (drop r.next (r.stream ++ notices))

length-skipped : (notices : List Sending) (r : Receiver) → r.next ≤ length r.stream → length (skipped notices r) ≡ place_after r.next (r.stream ++ notices) - r.next
unfolding skipped
length-skipped notices r h =
    length-take (place_after r.next (r.stream ++ notices) - r.next) (drop r.next (r.stream ++ notices))
    ∙ omega (arith, length-drop r.next (r.stream ++ notices), length-append r.stream notices)

whole_offered : (notices : List Sending) (r : Receiver) (front passed : List Sending) → r.next ≤ length r.stream → front ++ passed ≡ take r.next r.stream
    → front ++ (passed ++ skipped notices r) ≡ take (place_after r.next (r.stream ++ notices)) (r.stream ++ notices)
unfolding skipped
whole_offered notices r front passed within whole =
    sym (append_assoc front passed (skipped notices r)) ∙ ap (λ l. l ++ skipped notices r) (whole ∙ sym (take-append-le r.next r.stream notices within))
    ∙ longer r.next (place_after r.next (r.stream ++ notices)) (r.stream ++ notices) (omega arith)

of_offered : (bs : List Batch) (notices : List Sending) (r : Receiver) → AccountsFor bs r → AccountsFor bs (offered notices r)
of_offered bs notices r a = record {
  parts = a.parts;
  passed = a.passed ++ skipped notices r;
  batched = a.batched;
  whole = whole_offered notices r (flat_map part_notices a.parts) a.passed a.within a.whole;
  counted = length-append a.passed (skipped notices r) ∙ ap (λ n. n + length (skipped notices r)) a.counted ∙ ap (λ n. r.passed + n) (length-skipped notices r a.within);
  within = omega (arith, length-append r.stream notices, a.within);
}

take_own_length : {X : Type 0} (n : ℕ) (xs : List X) → take (length (take n xs)) xs ≡ take n xs
take_own_length n xs = ap (λ k. take k xs) (length-take n xs) ∙ take_min n xs

of_flushed : (bs : List Batch) (r : Receiver) → AccountsFor bs r → AccountsFor (bs ++ batch r ∷ []) (flushed r)
of_flushed bs r a = record {
  parts = a.parts ++ part ∷ [];
  passed = [];
  batched = ap (λ l. l ++ batch r ∷ []) a.batched ∙ ap (λ n. map part_batch a.parts ++ batch_by n ∷ []) (sym a.counted)
      ∙ sym (map-append part_batch a.parts (part ∷ []));
  whole = append-nil (flat_map part_notices (a.parts ++ part ∷ [])) ∙ flat_map-append part_notices a.parts (part ∷ [])
      ∙ ap (λ l. flat_map part_notices a.parts ++ l) (append-nil (part_notices part)) ∙ sym (append_assoc (flat_map part_notices a.parts) a.passed (given r))
      ∙ ap (λ l. l ++ given r) a.whole ∙ front;
  counted = refl;
  within = omega (arith, length-given r, a.within);
} where
  batch_by : ℕ → Batch
  batch_by n = record { notices = given r; dropped = min most_counted n }

  part : Part
  part = record { passed = a.passed; given = given r }

  front : take r.next r.stream ++ given r ≡ take (r.next + length (given r)) r.stream
  front = sym (take-add r.next (length (given r)) r.stream ∙ ap (λ l. take r.next r.stream ++ l) (take_own_length most_at_once (drop r.next r.stream)))

-- One call, for a receiver that is known before it.
record Goes (name : List ℕ) (rs : List Receiver) (whole : List Sending) (bs : List Batch) : Type 0 where
  receiver : Receiver
  found : find (is_named name) rs ≡ Some receiver
  stream : receiver.stream ≡ whole
  accounts : AccountsFor bs receiver

unmoved : (name : List ℕ) (rs : List Receiver) (bs : List Batch) (r : Receiver) → find (is_named name) rs ≡ Some r → AccountsFor bs r → Goes name rs (r.stream ++ []) (bs ++ [])
unmoved name rs bs r f a = record { receiver = r; found = f; stream = sym (append-nil r.stream); accounts = subst (λ l. AccountsFor l r) (sym (append-nil bs)) a }

by_add : (name other : List ℕ) (rs : List Receiver) (bs : List Batch) (r : Receiver) (j : Joined) → find (is_named name) rs ≡ Some r → AccountsFor bs r
    → Goes name (joined_by j other rs) (r.stream ++ []) (bs ++ [])
by_add name other rs bs r New f a =
    unmoved name (rs ++ receiver other ∷ []) bs r (find-append (is_named name) rs (receiver other ∷ []) ∙ ap (λ o. option_or o (find (is_named name) (receiver other ∷ []))) f) a
by_add name other rs bs r Known f a = unmoved name rs bs r f a
by_add name other rs bs r Full f a = unmoved name rs bs r f a

by_offer : (name : List ℕ) (notices : List Sending) (rs : List Receiver) (bs : List Batch) (r : Receiver) → find (is_named name) rs ≡ Some r → AccountsFor bs r
    → Goes name (map (offered notices) rs) (r.stream ++ notices) (bs ++ [])
by_offer name notices rs bs r f a = record {
  receiver = offered notices r;
  found = find-map (is_named name) (offered notices) (λ x. refl) rs ∙ ap (option_map (offered notices)) f;
  stream = refl;
  accounts = subst (λ l. AccountsFor l (offered notices r)) (sym (append-nil bs)) (of_offered bs notices r a);
}

still_found : (name other : List ℕ) (rs : List Receiver) (r : Receiver) → find (is_named name) rs ≡ Some r → find (is_named name) (map (flushed_if other) rs) ≡ Some (flushed_if other r)
still_found name other rs r f =
    find-map (is_named name) (flushed_if other) (λ x. ap (λ n. bytes_eq n name) (name-flushed_if other x)) rs ∙ ap (option_map (flushed_if other)) f

by_flush : (name other : List ℕ) (rs : List Receiver) (bs : List Batch) (r : Receiver) (b : Bool) → bytes_eq other name ≡ b → find (is_named name) rs ≡ Some r → AccountsFor bs r
    → Goes name (map (flushed_if other) rs) (r.stream ++ []) (bs ++ cond b (option_to_list (batch_of other rs)) [])
by_flush name other rs bs r true e f a = record {
  receiver = flushed r;
  found = still_found name other rs r f ∙ ap (λ t. Some (cond t (flushed r) r)) same;
  stream = sym (append-nil r.stream);
  accounts = subst (λ o. AccountsFor (bs ++ option_to_list (option_map batch o)) (flushed r)) (sym (ap (λ n. find (is_named n) rs) (same_bytes other name e) ∙ f)) (of_flushed bs r a);
} where
  same : bytes_eq r.name other ≡ true
  same = ap (bytes_eq r.name) (same_bytes other name e) ∙ passes_found (is_named name) rs r f
by_flush name other rs bs r false e f a = record {
  receiver = r;
  found = still_found name other rs r f ∙ ap (λ t. Some (cond t (flushed r) r)) differs;
  stream = sym (append-nil r.stream);
  accounts = subst (λ l. AccountsFor l r) (sym (append-nil bs)) a;
} where
  differs : bytes_eq r.name other ≡ false
  differs = ap (λ n. bytes_eq n other) (same_bytes r.name name (passes_found (is_named name) rs r f)) ∙ turned other name e

step : (name : List ℕ) (rs : List Receiver) (bs : List Batch) (r : Receiver) (call : Call) → find (is_named name) rs ≡ Some r → AccountsFor bs r → is_clear call ≡ false
    → Goes name (after rs call) (r.stream ++ offered_at call) (bs ++ batches_at name rs call)
step name rs bs r (add other) f a h = by_add name other rs bs r (joins other rs) f a
step name rs bs r (offer notices) f a h = by_offer name notices rs bs r f a
step name rs bs r (flush other) f a h = by_flush name other rs bs r (bytes_eq other name) refl f a
step name rs bs r clear f a h = cc

goes_on : (name : List ℕ) (calls : List Call) (rs : List Receiver) (bs : List Batch) (r : Receiver) → find (is_named name) rs ≡ Some r → AccountsFor bs r → forgets calls ≡ false
    → Goes name (after_all rs calls) (r.stream ++ offers calls) (bs ++ batches name rs calls)
goes_on name [] rs bs r f a h = unmoved name rs bs r f a
goes_on name (call ∷ calls) rs bs r f a h =
    let one = step name rs bs r call f a (left_false (is_clear call) (forgets calls) h) in
    let all = goes_on name calls (after rs call) (bs ++ batches_at name rs call) one.receiver one.found one.accounts (right_false (is_clear call) (forgets calls) h) in
    record {
      receiver = all.receiver;
      found = all.found;
      stream = all.stream ∙ ap (λ l. l ++ offers calls) one.stream ∙ append_assoc r.stream (offered_at call) (offers calls);
      accounts = subst (λ l. AccountsFor l all.receiver) (append_assoc bs (batches_at name rs call) (batches name (after rs call) calls)) all.accounts;
    }

-- a name that is added is found from then on
new_found : (name : List ℕ) (rs : List Receiver) → is_known name rs ≡ false → find (is_named name) (rs ++ receiver name ∷ []) ≡ Some (receiver name)
new_found name rs new =
    find-append (is_named name) rs (receiver name ∷ []) ∙ ap (λ o. option_or o (find (is_named name) (receiver name ∷ []))) (find_none (is_named name) rs new)
    ∙ ap (λ b. cond b (Some (receiver name)) None) (alike name)

unknown_before : (name : List ℕ) (rs : List Receiver) → joins name rs ≡ New → is_known name rs ≡ false
unknown_before name rs h = by (is_known name rs) h where
  by : (b : Bool) → cond b Known (cond (nat_lt (length rs) most_receivers) New Full) ≡ New → b ≡ false
  by true e = cc
  by false e = refl

pub accounted_since_added : (name : List ℕ) (rs : List Receiver) (calls : List Call) → joins name rs ≡ New → forgets calls ≡ false
    → IsAccounted name calls (after_all (after_add name rs) calls) (batches name (after_add name rs) calls)
accounted_since_added name rs calls new h = record { receiver = all.receiver; found = all.found; stream = all.stream; accounts = all.accounts } where
  found : find (is_named name) (after_add name rs) ≡ Some (receiver name)
  found = ap (λ j. find (is_named name) (joined_by j name rs)) new ∙ new_found name rs (unknown_before name rs new)

  all : Goes name (after_all (after_add name rs) calls) (offers calls) (batches name (after_add name rs) calls)
  all = goes_on name calls (after_add name rs) [] (receiver name) found (of_new name) h
