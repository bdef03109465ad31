-- Notices that are offered one list after another.
use Rattle.std.proofs.Common.{◌≡◌, ℕ, ◌+◌, ◌-◌, List, [], ◌∷◌, ◌++◌, length, map, ap, ◌∙◌, refl, arith, append_assoc, append-nil, length-append}
use Rattle.std.specs.List.{AllByRecursion}
use Rattle.spec_alerts.specs.declared.sending.Sending.{Sending}
use Rattle.spec_alerts.specs.private.Laws.{AreReceivers, IsInStream}
use Rattle.spec_alerts.specs.Receivers.{Receiver, after_offer, offered, place_after}

offered_on : (xs ys : List Sending) (r : Receiver) → offered ys (offered xs r) ≡ offered (xs ++ ys) r
offered_on xs ys r =
    ap (λ (s : List Sending). record { name = r.name; stream = s; next = second; passed = counted }) joined
    ∙ ap (λ (n : ℕ). record { name = r.name; stream = whole; next = n; passed = counted }) place
    ∙ ap (λ (n : ℕ). record { name = r.name; stream = whole; next = place_after r.next whole; passed = n }) counts where
      whole : List Sending
      whole = r.stream ++ (xs ++ ys)

      first : ℕ
      first = place_after r.next (r.stream ++ xs)

      second : ℕ
      second = place_after first ((r.stream ++ xs) ++ ys)

      counted : ℕ
      counted = (r.passed + (first - r.next)) + (second - first)

      joined : (r.stream ++ xs) ++ ys ≡ whole
      joined = append_assoc r.stream xs ys

      place : second ≡ place_after r.next whole
      place = omega (arith, length-append (r.stream ++ xs) ys, ap length joined)

      counts : counted ≡ r.passed + (place_after r.next whole - r.next)
      counts = omega (arith, length-append (r.stream ++ xs) ys, ap length joined)

pub all_offered_on : (xs ys : List Sending) (rs : List Receiver) → after_offer ys (after_offer xs rs) ≡ after_offer (xs ++ ys) rs
all_offered_on xs ys [] = refl
all_offered_on xs ys (r ∷ rs) =
    ap (λ (x : Receiver). x ∷ map (offered ys) (map (offered xs) rs)) (offered_on xs ys r)
    ∙ ap (λ (l : List Receiver). offered (xs ++ ys) r ∷ l) (all_offered_on xs ys rs)

offered_none : (r : Receiver) → IsInStream r → offered [] r ≡ r
offered_none r h =
    ap (λ (s : List Sending). record { name = r.name; stream = s; next = place_after r.next s; passed = r.passed + (place_after r.next s - r.next) }) (append-nil r.stream)
    ∙ ap (λ (n : ℕ). record { name = r.name; stream = r.stream; next = n; passed = r.passed + (n - r.next) }) stays
    ∙ ap (λ (n : ℕ). record { name = r.name; stream = r.stream; next = r.next; passed = n }) counts where
      stays : place_after r.next r.stream ≡ r.next
      stays = omega (arith, h.waiting)

      counts : r.passed + (r.next - r.next) ≡ r.passed
      counts = omega arith

all_none : (rs : List Receiver) → AllByRecursion IsInStream rs → map (offered []) rs ≡ rs
all_none [] h = refl
all_none (r ∷ rs) h = ap (λ (x : Receiver). x ∷ map (offered []) rs) (offered_none r h.0) ∙ ap (λ (l : List Receiver). r ∷ l) (all_none rs h.1)

pub none_offered : (rs : List Receiver) → AreReceivers rs → after_offer [] rs ≡ rs
none_offered rs h = all_none rs h.places
