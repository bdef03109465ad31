-- What receivers keep over all calls.
use Rattle.std.proofs.Common.{◌≡◌, ℕ, ◌-◌, ◌<◌, min, Bool, true, false, cond, nat_lt, List, [], ◌∷◌, ◌++◌, length, drop, map, ap, ◌∙◌, refl, arith, length-append, length-drop}
use Rattle.std.specs.List.{AllByRecursion}
use Rattle.std.specs.Str.{bytes_eq}
use Rattle.std.proofs.lemmas.List.{length-take, length-map}
use Rattle.std.proofs.lemmas.List.Folds.{list_any-append}
use borrow.Author.Tests.{ltb-true}
use Rattle.spec_alerts.specs.declared.sending.Sending.{Sending}
use Rattle.spec_alerts.specs.private.Calls.{Call, add, offer, flush, clear, after}
use Rattle.spec_alerts.specs.private.Laws.{AreReceivers, IsInStream, NamesDiffer}
use Rattle.spec_alerts.specs.Receivers.{Receiver, after_add, flushed, flushed_if, given, is_known, is_named, joined_by, most_at_once, most_receivers, offered, receiver}
use Rattle.spec_alerts.specs.declared.notices.joined.Joined.TheVariants.{New, Known, Full}
use Rattle.spec_alerts.proofs.Names.{left_false, list_any-map, right_false, turned}

pub offered_in_stream : (notices : List Sending) (r : Receiver) → IsInStream r → IsInStream (offered notices r)
offered_in_stream notices r h = record {
  within = omega (arith, length-append r.stream notices, h.within);
  waiting = omega (arith, length-append r.stream notices, h.within);
}

pub length-given : (r : Receiver) → length (given r) ≡ min most_at_once (length r.stream - r.next)
length-given r = length-take most_at_once (drop r.next r.stream) ∙ ap (min most_at_once) (length-drop r.next r.stream)

pub flushed_in_stream : (r : Receiver) → IsInStream r → IsInStream (flushed r)
flushed_in_stream r h = record {
  within = omega (arith, length-given r, h.within);
  waiting = omega (arith, length-given r, h.waiting);
}

pub flushed_if_in_stream : (name : List ℕ) (r : Receiver) → IsInStream r → IsInStream (flushed_if name r)
flushed_if_in_stream name r h = by (is_named name r) where
  by : (b : Bool) → IsInStream (cond b (flushed r) r)
  by true = flushed_in_stream r h
  by false = h

pub name-flushed_if : (name : List ℕ) (r : Receiver) → (flushed_if name r).name ≡ r.name
name-flushed_if name r = by (is_named name r) where
  by : (b : Bool) → (cond b (flushed r) r).name ≡ r.name
  by true = refl
  by false = refl

-- a change that leaves the names

all_map : (f : Receiver → Receiver) → ((r : Receiver) → IsInStream r → IsInStream (f r)) → (rs : List Receiver) → AllByRecursion IsInStream rs
    → AllByRecursion IsInStream (map f rs)
all_map f holds [] h = tt
all_map f holds (r ∷ rs) h = (holds r h.0, all_map f holds rs h.1)

pub still_known : (f : Receiver → Receiver) → ((r : Receiver) → (f r).name ≡ r.name) → (name : List ℕ) (rs : List Receiver) → is_known name (map f rs) ≡ is_known name rs
still_known f same name rs = list_any-map (is_named name) f (λ r. ap (λ n. bytes_eq n name) (same r)) rs

differ_map : (f : Receiver → Receiver) → ((r : Receiver) → (f r).name ≡ r.name) → (rs : List Receiver) → NamesDiffer rs → NamesDiffer (map f rs)
differ_map f same [] h = tt
differ_map f same (r ∷ rs) h = (ap (λ n. is_known n (map f rs)) (same r) ∙ still_known f same r.name rs ∙ h.0, differ_map f same rs h.1)

pub kept_map : (f : Receiver → Receiver) → ((r : Receiver) → (f r).name ≡ r.name) → ((r : Receiver) → IsInStream r → IsInStream (f r)) → (rs : List Receiver)
    → AreReceivers rs → AreReceivers (map f rs)
kept_map f same holds rs h = record {
  places = all_map f holds rs h.places;
  differ = differ_map f same rs h.differ;
  few = rw length-map h.few;
}

-- one more receiver

all_more : (r : Receiver) (rs : List Receiver) → IsInStream r → AllByRecursion IsInStream rs → AllByRecursion IsInStream (rs ++ r ∷ [])
all_more r [] one h = (one, tt)
all_more r (x ∷ xs) one h = (h.0, all_more r xs one h.1)

not_last : (name : List ℕ) (r : Receiver) (rs : List Receiver) → is_known r.name rs ≡ false → bytes_eq r.name name ≡ false → is_known r.name (rs ++ receiver name ∷ []) ≡ false
not_last name r rs here last = rw (list_any-append (is_named r.name) rs (receiver name ∷ []), here, turned r.name name last) refl

differ_more : (name : List ℕ) (rs : List Receiver) → is_known name rs ≡ false → NamesDiffer rs → NamesDiffer (rs ++ receiver name ∷ [])
differ_more name [] new h = (refl, tt)
differ_more name (r ∷ rs) new h =
    (not_last name r rs h.0 (left_false (bytes_eq r.name name) (is_known name rs) new), differ_more name rs (right_false (bytes_eq r.name name) (is_known name rs) new) h.1)

new_in_stream : (name : List ℕ) → IsInStream (receiver name)
new_in_stream name = record { within = omega arith; waiting = omega arith }

pub kept_more : (name : List ℕ) (rs : List Receiver) → is_known name rs ≡ false → length rs < most_receivers → AreReceivers rs → AreReceivers (rs ++ receiver name ∷ [])
kept_more name rs new few h = record {
  places = all_more (receiver name) rs (new_in_stream name) h.places;
  differ = differ_more name rs new h.differ;
  few = omega (arith, length-append rs (receiver name ∷ []));
}

pub kept_add : (name : List ℕ) (rs : List Receiver) → AreReceivers rs → AreReceivers (after_add name rs)
kept_add name rs h = by (is_known name rs) (nat_lt (length rs) most_receivers) refl refl where
  by : (known room : Bool) → is_known name rs ≡ known → nat_lt (length rs) most_receivers ≡ room → AreReceivers (joined_by (cond known Known (cond room New Full)) name rs)
  by true room k r = h
  by false true k r = kept_more name rs k (ltb-true (length rs) most_receivers r) h
  by false false k r = h

pub none_known : AreReceivers []
none_known = record { places = tt; differ = tt; few = omega arith }

pub kept_after : (rs : List Receiver) (call : Call) → AreReceivers rs → AreReceivers (after rs call)
kept_after rs (add name) h = kept_add name rs h
kept_after rs (offer notices) h = kept_map (offered notices) (λ r. refl) (offered_in_stream notices) rs h
kept_after rs (flush name) h = kept_map (flushed_if name) (name-flushed_if name) (flushed_if_in_stream name) rs h
kept_after rs clear h = none_known
