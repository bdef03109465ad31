-- What is put into a ring, and what is taken out.
use Rattle.std.proofs.Common.{◌≡◌, ℕ, ◌+◌, ◌-◌, ◌≤◌, min, List, [], ◌∷◌, ◌++◌, length, take, drop, map, ap, ◌∙◌, refl, subst, arith, append_assoc}
use Rattle.circular_buffer.specs.Buffer.{Buffer, buffer, keep_last}
use Rattle.spec_alerts.specs.declared.sending.Sending.{Sending}
use Rattle.spec_alerts.specs.declared.notices.batch.Batch.{Batch}
use Rattle.spec_alerts.specs.Receivers.{most_at_once, most_counted, most_waiting}
use Rattle.pr_queue.specs.private.Queues.{Queued, ReceiverQueue, next_batch, taken_in, waiting_in, with_coming, without_batch}
use Rattle.pr_queue.proofs.Lists.{drop_fit, keep_last_more, take_fit}

module _ {X : Type 0} where
  pub one_more : (ring after : Buffer X) (n : ℕ) (xs ys : List X) (y : X) → ring ≡ buffer (keep_last n (xs ++ ys)) n
      → after ≡ buffer (keep_last ring.capacity (ring.items ++ y ∷ [])) ring.capacity → after ≡ buffer (keep_last n (xs ++ (ys ++ y ∷ []))) n
  one_more ring after n xs ys y is h =
      h ∙ ap (λ r. buffer (keep_last r.capacity (r.items ++ y ∷ [])) r.capacity) is
      ∙ ap (λ l. buffer l n) (keep_last_more n (xs ++ ys) (y ∷ []) ∙ ap (keep_last n) (append_assoc xs ys (y ∷ [])))

abbrev queued : List ℕ → List Sending → ℕ → List Sending → Queued
queued name notices dropped coming = record { waiting = record { name = name; notices = notices; dropped = dropped }; coming = coming }

pub taken : (name : List ℕ) (ring after : Buffer Sending) (dropped counted count : ℕ) (coming left : List Sending) (now : Queued)
    → queued name ring.items dropped coming ≡ now → ring.capacity ≡ most_waiting → length ring.items ≤ ring.capacity
    → after ≡ buffer (keep_last ring.capacity (ring.items ++ coming)) ring.capacity → left ≡ []
    → counted ≡ min (dropped + (count - (most_waiting - length ring.items))) most_counted
    → queued name after.items counted left ≡ taken_in count now
taken name ring after dropped counted count coming left now is cap within put none counts =
    subst (λ q. queued name after.items counted left ≡ taken_in count q) is
    (ap (λ l. queued name l counted left) (ap (λ (b : Buffer Sending). b.items) put ∙ ap (λ n. keep_last n (ring.items ++ coming)) cap)
    ∙ ap (λ n. queued name (keep_last most_waiting (ring.items ++ coming)) n left) (counts ∙ same)
    ∙ ap (queued name (keep_last most_waiting (ring.items ++ coming)) (min most_counted (dropped + ((length ring.items + count) - most_waiting)))) none) where
      same : min (dropped + (count - (most_waiting - length ring.items))) most_counted ≡ min most_counted (dropped + ((length ring.items + count) - most_waiting))
      same = omega arith

-- what is ready does not wait yet
pub unprepared : (coming : List Sending) (xs ys : List Queued) → waiting_in (map (with_coming coming) xs ++ ys) ≡ waiting_in (xs ++ ys)
unprepared coming [] ys = refl
unprepared coming (x ∷ xs) ys = ap (λ l. x.waiting ∷ l) (unprepared coming xs ys)

-- a batch is taken out
pub first_batch : (name : List ℕ) (notices batched : List Sending) (dropped told count : ℕ) (coming : List Sending) (now : Queued)
    → queued name notices dropped coming ≡ now → count ≡ min (length notices) most_at_once → batched ≡ take count notices → told ≡ dropped
    → record { notices = batched; dropped = told } ≡ next_batch now.waiting
first_batch name notices batched dropped told count coming now is counts h e =
    subst (λ q. batch_by batched told ≡ next_batch q.waiting) is
    (ap (λ l. batch_by l told) (h ∙ ap (λ k. take k notices) counts ∙ take_fit most_at_once notices) ∙ ap (batch_by (take most_at_once notices)) e) where
      batch_by : List Sending → ℕ → Batch
      batch_by notices dropped = record { notices = notices; dropped = dropped }

pub rest_behind : (name : List ℕ) (ring after : Buffer Sending) (dropped left count : ℕ) (coming : List Sending) (now : Queued)
    → queued name ring.items dropped coming ≡ now → count ≡ min (length ring.items) most_at_once
    → after ≡ buffer (keep_last (length ring.items - count) ring.items) ring.capacity → left ≡ 0
    → record { name = name; notices = after.items; dropped = left } ≡ without_batch now.waiting
rest_behind name ring after dropped left count coming now is counts h e =
    subst (λ q. waiting_by after.items left ≡ without_batch q.waiting) is
    (ap (λ l. waiting_by l left) (ap (λ (b : Buffer Sending). b.items) h ∙ ap (λ k. keep_last (length ring.items - k) ring.items) counts ∙ drop_fit most_at_once ring.items)
    ∙ ap (waiting_by (drop most_at_once ring.items)) e) where
      waiting_by : List Sending → ℕ → ReceiverQueue
      waiting_by notices dropped = record { name = name; notices = notices; dropped = dropped }
