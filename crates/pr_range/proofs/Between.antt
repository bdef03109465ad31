-- The samples between two places, one after another.
use Rattle.std.proofs.Common.{◌≡◌, ◌≢◌, ℕ, zero, suc, ◌+◌, ◌-◌, ◌<◌, ◌≤◌, nat_lt, Bool, true, false, cond, List, [], ◌∷◌, ◌++◌, length, get_or, take, drop, slice_get, Some, None, option_and_then, refl, sym, ap, ◌∙◌, arith, append_assoc}
use Rattle.std.proofs.lemmas.Option.{slice_get-get_or}
use Rattle.std.proofs.lemmas.List.{drop_more, drop-drop}
use Rattle.std.proofs.lemmas.List.Elements.{filter_map-append}
use Rattle.std.proofs.lemmas.Grind.{common_steps}
use Rattle.pr_head.specs.pr_labels.declared.pair.Pair.{Pair}
use Rattle.pr_head.specs.declared.timed.Timed.{Timed}
use Rattle.pr_head.specs.private.Stored.{Stored, count_of, sample_at}
use Rattle.pr_head.specs.private.Reads.{shown_of}
use Rattle.pr_head.specs.spec_history.declared.spot.Spot.{Spot}
use Rattle.pr_range.specs.private.Spots.{samples_between, spots_of}

take_parts : {X : Type 0} (m n : ℕ) (xs : List X) → take (m + n) xs ≡ take m xs ++ take n (drop m xs)
take_parts zero n xs = let e : 0 + n ≡ n = omega arith in ap (λ k. take k xs) e
take_parts (suc m) n [] = let e : suc m + n ≡ suc (m + n) = omega arith in ap (λ k. take k []) e ∙ none n where
  none : {X : Type 0} (n : ℕ) → [] ≡ take {A = X} n []
  none zero = refl
  none (suc n) = refl
take_parts (suc m) n (x ∷ xs) = let e : suc m + n ≡ suc (m + n) = omega arith in ap (λ k. take k (x ∷ xs)) e ∙ ap (λ l. x ∷ l) (take_parts m n xs)

pub between_more : (s : Stored) (from place to : ℕ) → s.first ≤ from → from ≤ place → place ≤ to → samples_between s from to ≡ samples_between s from place ++ samples_between s place to
between_more s from place to low mid high =
    let size : to - from ≡ (place - from) + (to - place) = omega arith in
    let start : (from - s.first) + (place - from) ≡ place - s.first = omega arith in
    ap (λ n. take n (drop (from - s.first) s.held)) size ∙ take_parts (place - from) (to - place) (drop (from - s.first) s.held)
    ∙ ap (λ l. samples_between s from place ++ take (to - place) l) (drop-drop (place - from) (from - s.first) s.held ∙ ap (λ n. drop n s.held) start)

-- the sample at a place, alone
sample_found : (s : Stored) (place : ℕ) → s.first ≤ place → sample_at s place ≡ slice_get s.held (place - s.first)
sample_found s place h = by (nat_lt place s.first) refl where
  by : (b : Bool) → nat_lt place s.first ≡ b → cond b None (slice_get s.held (place - s.first)) ≡ slice_get s.held (place - s.first)
  by true e = absurd (grind (arith, common_steps))
  by false e = refl

pub one_between : (s : Stored) (place : ℕ) (x : Timed) → s.first ≤ place → place < count_of s → sample_at s place ≡ Some x → samples_between s place (place + 1) ≡ x ∷ []
one_between s place x low high h =
    let n = place - s.first in
    let inside : n < length s.held = omega arith in
    let one : (place + 1) - place ≡ 1 = omega arith in
    let is : Some x ≡ Some (get_or s.held n x) = sym h ∙ sample_found s place low ∙ slice_get-get_or s.held n x inside in
    let same : get_or s.held n x ≡ x = cc in
    ap (λ k. take k (drop n s.held)) one ∙ ap (take 1) (drop_more s.held n x inside) ∙ ap (λ y. y ∷ []) same

pub some_between : (s : Stored) (place : ℕ) → s.first ≤ place → place < count_of s → sample_at s place ≢ None
some_between s place low high h =
    let n = place - s.first in
    let inside : n < length s.held = omega arith in
    by s.held inside (sym (sample_found s place low) ∙ h) where
      by : (l : List Timed) → place - s.first < length l → slice_get l (place - s.first) ≡ None → ⊥
      by [] k e = absurd (omega arith)
      by (x ∷ xs) k e = cc (slice_get-get_or (x ∷ xs) (place - s.first) x k)

-- what is read at a place of a series
pub read_some : (head : List (List Pair × Stored)) (series place : ℕ) (x : Timed) (e : List Pair × Stored) → slice_get head series ≡ Some e → e.1.first ≤ place → place < count_of e.1
    → Some x ≡ option_and_then (λ y. sample_at y.1 place) (slice_get head series) → spots_of (x ∷ []) ≡ spots_of (samples_between e.1 place (place + 1))
read_some head series place x e at low high h =
    let is : Some x ≡ sample_at e.1 place = h ∙ ap (option_and_then (λ y. sample_at y.1 place)) at in
    ap spots_of (sym (one_between e.1 place x low high (sym is)))

pub read_none : {P : Type 0} (head : List (List Pair × Stored)) (series place : ℕ) (e : List Pair × Stored) → slice_get head series ≡ Some e → e.1.first ≤ place → place < count_of e.1
    → None ≡ option_and_then (λ y. sample_at y.1 place) (slice_get head series) → P
read_none head series place e at low high h = absurd (some_between e.1 place low high (sym (h ∙ ap (option_and_then (λ y. sample_at y.1 place)) at)))

-- one more place
pub place_more : (s : Stored) (from place to : ℕ) (front spots spots' : List Spot) → s.first ≤ from → from ≤ place → spots ≡ front ++ spots_of (samples_between s from place)
    → spots' ≡ spots ++ spots_of (samples_between s place (place + 1)) → spots' ≡ front ++ spots_of (samples_between s from (place + 1))
place_more s from place to front spots spots' low mid h k =
    k ∙ ap (λ l. l ++ spots_of (samples_between s place (place + 1))) h ∙ append_assoc front (spots_of (samples_between s from place)) (spots_of (samples_between s place (place + 1)))
    ∙ ap (λ l. front ++ l) (sym (filter_map-append shown_of (samples_between s from place) (samples_between s place (place + 1)))
    ∙ ap spots_of (sym (between_more s from place (place + 1) low mid (omega arith))))
