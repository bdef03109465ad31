-- Alerts that are sent and marked one after the other.
use Rattle.std.proofs.Common.{◌≡◌, Bool, true, false, cond, ℕ, zero, suc, ◌+◌, ◌<◌, List, [], ◌∷◌, ◌++◌, length, map, take, get_or, refl, sym, ap, ◌∙◌, subst, arith}
use Rattle.std.specs.Prelude.{slice_get, slice_set, Some, None}
use Rattle.std.specs.List.{cons_option}
use Rattle.std.proofs.Math.Numerals.{add-one}
use Rattle.std.proofs.Math.Seq.{take-length}
use Rattle.std.proofs.lemmas.List.{take_more}
use Rattle.std.proofs.lemmas.List.Elements.{filter_map-append}
use Rattle.std.proofs.lemmas.Option.{get_or_from_slice_get, slice_get_within}
use Rattle.spec_rules.specs.spec_alerts.declared.record.Record.{Record}
use Rattle.spec_rules.specs.spec_alerts.declared.sending.Sending.{Sending}
use Rattle.spec_rules.specs.spec_alerts.Records.{is_due, sending_if, sending_of, sendings_at}
use Rattle.pr_rule.specs.private.AlertStanding.{marked, marked_if}

-- the first ones are marked where they are due
abbrev pub marked_until : ℕ → ℕ → List Record → List Record
marked_until now zero rs = rs
marked_until now (suc n) [] = []
marked_until now (suc n) (r ∷ rs) = marked_if now r ∷ marked_until now n rs

pub length_until : (now n : ℕ) (rs : List Record) → length (marked_until now n rs) ≡ length rs
length_until now zero rs = refl
length_until now (suc n) [] = refl
length_until now (suc n) (r ∷ rs) = ap suc (length_until now n rs)

-- the next one is as it was
next_until : (now n : ℕ) (rs : List Record) → slice_get (marked_until now n rs) n ≡ slice_get rs n
next_until now zero rs = refl
next_until now (suc n) [] = refl
next_until now (suc n) (r ∷ rs) = next_until now n rs

some_is : (x y : Record) → Some x ≡ Some y → x ≡ y
some_is x y e = cc

mark_next : (now n : ℕ) (rs : List Record) (r : Record) → slice_get rs n ≡ Some r → slice_set (marked_until now n rs) n (marked_if now r) ≡ marked_until now (suc n) rs
mark_next now n [] r e = absurd (let k : None ≡ Some r = e in cc)
mark_next now zero (x ∷ rs) r e = ap (λ (y : Record). marked_if now y ∷ rs) (sym (some_is x r e))
mark_next now (suc n) (x ∷ rs) r e = ap (λ (l : List Record). marked_if now x ∷ l) (mark_next now n rs r e)

pub marked_all : (now : ℕ) (rs : List Record) → marked_until now (length rs) rs ≡ map (marked_if now) rs
marked_all now [] = refl
marked_all now (r ∷ rs) = ap (λ (l : List Record). marked_if now r ∷ l) (marked_all now rs)

take_next : (n : ℕ) (rs : List Record) (r : Record) → slice_get rs n ≡ Some r → take (n + 1) rs ≡ take n rs ++ r ∷ []
take_next n rs r e = take_more rs n r (slice_get_within rs n r e) ∙ ap (λ (y : Record). take n rs ++ y ∷ []) (get_or_from_slice_get rs n r r e)

sent_next : (interval now n : ℕ) (rs : List Record) (r : Record) → slice_get rs n ≡ Some r
    → sendings_at interval now (take (n + 1) rs) ≡ sendings_at interval now (take n rs) ++ sendings_at interval now (r ∷ [])
sent_next interval now n rs r e = ap (sendings_at interval now) (take_next n rs r e) ∙ filter_map-append (λ (x : Record). sending_if (is_due now x) (sending_of interval now x)) (take n rs) (r ∷ [])

record_there : (n : ℕ) (rs : List Record) → n < length rs → (r : Record) × (slice_get rs n ≡ Some r)
record_there n [] h = absurd (omega arith)
record_there zero (x ∷ rs) h = (x, refl)
record_there (suc n) (x ∷ rs) h = record_there n rs (omega arith)

-- How far the sending has come; the notifications where they are told.
pub record HasSent (tells : Bool) (interval now n : ℕ) (rs after : List Record) (sent : List Sending) : Type 0 where
  pub sendings : tells ≡ true → sent ≡ sendings_at interval now (take n rs)
  pub marks : after ≡ marked_until now n rs

sends_by : (tells : Bool) (interval now n : ℕ) (rs at after : List Record) (so_far more : List Sending) → HasSent tells interval now n rs at so_far → (r : Record) → slice_get rs n ≡ Some r
    → ((r : Record) → slice_get at n ≡ Some r → tells ≡ true → more ≡ so_far ++ sendings_at interval now (r ∷ []))
    → ((r : Record) → slice_get at n ≡ Some r → after ≡ slice_set at n (marked_if now r))
    → HasSent tells interval now (n + 1) rs after more
sends_by tells interval now n rs at after so_far more h r e sends marks =
    let here : slice_get at n ≡ Some r = ap (λ (l : List Record). slice_get l n) h.marks ∙ next_until now n rs ∙ e in
    record {
      sendings = λ told. sends r here told ∙ ap (λ (l : List Sending). l ++ sendings_at interval now (r ∷ [])) (h.sendings told) ∙ sym (sent_next interval now n rs r e);
      marks = marks r here ∙ ap (λ (l : List Record). slice_set l n (marked_if now r)) h.marks ∙ mark_next now n rs r e ∙ ap (λ (k : ℕ). marked_until now k rs) (sym (add-one n));
    }

pub sends_next : (tells : Bool) (interval now n : ℕ) (rs at after : List Record) (so_far more : List Sending) → HasSent tells interval now n rs at so_far → n < length rs
    → ((r : Record) → slice_get at n ≡ Some r → tells ≡ true → more ≡ so_far ++ sendings_at interval now (r ∷ []))
    → ((r : Record) → slice_get at n ≡ Some r → after ≡ slice_set at n (marked_if now r))
    → HasSent tells interval now (n + 1) rs after more
sends_next tells interval now n rs at after so_far more h within sends marks =
    let there = record_there n rs within in
    sends_by tells interval now n rs at after so_far more h there.0 there.1 sends marks

-- the records stay as many
pub still_within : (tells : Bool) (interval now n : ℕ) (rs at : List Record) (sent : List Sending) → HasSent tells interval now n rs at sent → n < length rs → n < length at
still_within tells interval now n rs at sent h within = subst (λ (k : ℕ). n < k) (sym (ap length h.marks ∙ length_until now n rs)) within

-- all were gone over
pub sent_all : (tells : Bool) (interval now n : ℕ) (rs after : List Record) (sent : List Sending) → HasSent tells interval now n rs after sent → n ≡ length rs
    → (tells ≡ true → sent ≡ sendings_at interval now rs) × (after ≡ map (marked_if now) rs)
sent_all tells interval now n rs after sent h e = (
  λ told. h.sendings told ∙ ap (λ (k : ℕ). sendings_at interval now (take k rs)) e ∙ ap (sendings_at interval now) (take-length rs),
  h.marks ∙ ap (λ (k : ℕ). marked_until now k rs) e ∙ marked_all now rs,
)

-- The alert of a record that is not due, and of one that is.

set_same : (n : ℕ) (rs : List Record) (r : Record) → slice_get rs n ≡ Some r → rs ≡ slice_set rs n r
set_same n [] r e = absurd (let k : None ≡ Some r = e in cc)
set_same zero (x ∷ rs) r e = ap (λ (y : Record). y ∷ rs) (some_is x r e)
set_same (suc n) (x ∷ rs) r e = ap (λ (l : List Record). x ∷ l) (set_same n rs r e)

pub not_marked : (now n : ℕ) (rs : List Record) (r : Record) → slice_get rs n ≡ Some r → is_due now r ≡ false → rs ≡ slice_set rs n (marked_if now r)
not_marked now n rs r e due = set_same n rs r e ∙ sym (λ i. slice_set rs n (cond (due i) (marked now r) r))

pub sends_due : (interval now n : ℕ) (rs list : List Record) (x r : Record) (before more : List Sending) → slice_get rs n ≡ Some r → is_due now r ≡ true → list ≡ rs → x ≡ get_or list n x
    → more ≡ before ++ sending_of interval now x ∷ [] → more ≡ before ++ sendings_at interval now (r ∷ [])
sends_due interval now n rs list x r before more e due same is noted =
    let here : x ≡ r = is ∙ ap (λ (l : List Record). get_or l n x) same ∙ get_or_from_slice_get rs n r x e in
    noted ∙ ap (λ (y : Record). before ++ sending_of interval now y ∷ []) here
    ∙ sym (λ i. before ++ cons_option (sending_if (due i) (sending_of interval now r)) [])
