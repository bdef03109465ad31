-- What a trim forgets are the first samples, and it forgets none above its moment.
use Rattle.std.proofs.Common.{◌≡◌, ℕ, zero, suc, ℤ, pos, negsuc, ◌≤ℤ◌, ◌+◌, ◌-◌, ◌≤◌, ◌<◌, nat_lt, Bool, true, false, cond, not, List, [], ◌∷◌, ◌++◌, length, get_or, map, take, drop, filter, slice_get, Some, refl, sym, ap, subst, ◌∙◌, arith}
use Rattle.std.specs.List.{position_or_len}
use Rattle.std.specs.List.Sorted.{IsNonDecreasingBy}
use Rattle.std.proofs.lemmas.List.{length-drop, drop-drop}
use Rattle.std.proofs.lemmas.List.Filters.{length-filter_both}
use Rattle.std.proofs.lemmas.List.Sorted.{IsNonDecreasingBy-drop}
use Rattle.std.proofs.lemmas.List.Sums.{prefix_len-le-length}
use Rattle.std.proofs.lemmas.Grind.{common_steps}
use Rattle.indexmap.specs.IndexMap.{set_value_at}
use Rattle.pr_labels.specs.declared.pair.Pair.{Pair}
use Rattle.spec_history.specs.declared.entry.Entry.{Entry}
use Rattle.spec_history.specs.private.Laws.{IsLawful, entries_until}
use Rattle.spec_history.specs.Lookback.{is_after, is_until}
use Rattle.pr_head.specs.declared.timed.Timed.{Timed}
use Rattle.pr_head.specs.private.Stored.{Stored, after_trim, held_after, position_of, stored, trimmed}
use Rattle.pr_head.specs.private.Holds.{samples_of, sets_of, IsKept, Holds, IsWhole}
use Rattle.pr_head.proofs.Newest.{Rises, rising_samples, none_later, until_is}

abbrev Series : Type 0
Series = List Pair × Stored

is_later : ℤ → Timed → Bool
is_later a x = is_after a x.time

-- a sample that is after a moment makes those behind it so
pub later_up : (a : ℤ) (s t : ℕ) → is_after a s ≡ true → s ≤ t → is_after a t ≡ true
later_up (pos a) s t h k = grind (arith, common_steps)
later_up (negsuc a) s t h k = refl

pub all_later : (a : ℤ) (xs : List Timed) → ((k : ℕ) (d : Timed) → k < length xs → is_after a (get_or xs k d).time ≡ true) → filter (λ x. is_after a x.time) xs ≡ xs
all_later a [] h = refl
all_later a (x ∷ xs) h = (λ i. cond (h 0 x (omega arith) i) (x ∷ filter (λ y. is_after a y.time) xs) (filter (λ y. is_after a y.time) xs)) ∙ ap (λ l. x ∷ l) (all_later a xs (λ k d below. h (suc k) d (omega arith)))

pub first_later : (a : ℤ) (xs : List Timed) → IsNonDecreasingBy (λ x. x.time) xs → drop (position_or_len (λ x. is_after a x.time) xs) xs ≡ filter (λ x. is_after a x.time) xs
first_later a [] up = refl
first_later a (x ∷ xs) up = by (is_after a x.time) refl (first_later a xs (IsNonDecreasingBy-drop (λ (y : Timed). y.time) 1 (x ∷ xs) up)) where
  next : (n : ℕ) → drop (1 + n) (x ∷ xs) ≡ drop n xs
  next n = let more : 1 + n ≡ suc n = omega arith in ap (λ k. drop k (x ∷ xs)) more

  by : (b : Bool) → is_after a x.time ≡ b → drop (position_or_len (λ y. is_after a y.time) xs) xs ≡ filter (λ y. is_after a y.time) xs
      → drop (cond (not b) (1 + position_or_len (λ y. is_after a y.time) xs) 0) (x ∷ xs) ≡ cond b (x ∷ filter (λ y. is_after a y.time) xs) (filter (λ y. is_after a y.time) xs)
  by true e rest = ap (λ l. x ∷ l) (sym (all_later a xs (λ k d below. later_up a x.time (get_or xs k d).time e (up 0 (suc k) d (omega arith) (omega arith)))))
  by false e rest = next (position_or_len (λ y. is_after a y.time) xs) ∙ rest

-- the samples that a trim leaves
pub is_trimmed : (s : Stored) (before : ℤ) (n : ℕ) → IsNonDecreasingBy (λ x. x.time) s.held → s.first + n ≡ position_of s before → n ≤ length s.held
    → stored (s.first + n) (drop n s.held) s.last ≡ after_trim s before
is_trimmed s before n up at within =
    let place : n ≡ position_or_len (λ x. is_after before x.time) s.held = omega arith in
    let held : drop n s.held ≡ held_after s before = ap (λ k. drop k s.held) place ∙ first_later before s.held up in
    let size : length (held_after s before) ≡ length s.held - n = sym (ap length held) ∙ length-drop n s.held in
    let gone : n ≡ length s.held - length (held_after s before) = omega arith in
    (λ i. stored (s.first + gone i) (held i) s.last)

-- what is forgotten of a kept series
pub kept_trimmed : (history : List Entry) (labels : List Pair) (s : Stored) (before : ℤ) → IsNonDecreasingBy (λ x. x.time) s.held → IsKept history labels s → IsKept history labels (after_trim s before)
kept_trimmed history labels s before up k =
    let n = position_or_len (λ (x : Timed). is_after before x.time) s.held in
    let within : n ≤ length s.held = prefix_len-le-length (λ (x : Timed). not (is_after before x.time)) s.held in
    let size : length s.held ≡ length (samples_of history labels) - s.first = ap length k.held ∙ length-drop s.first (samples_of history labels) in
    let low : s.first ≤ length (samples_of history labels) = k.first in
    subst (IsKept history labels) (is_trimmed s before n up refl within) (record {
      first = omega arith;
      held = ap (drop n) k.held ∙ drop-drop n s.first (samples_of history labels);
      last = k.last;
    })

-- the series of a trimmed head
pub sets_trimmed : (before : ℤ) (head : List Series) → sets_of (trimmed before head) ≡ sets_of head
sets_trimmed before [] = refl
sets_trimmed before (s ∷ head) = ap (λ l. s.0 ∷ l) (sets_trimmed before head)

pub trimmed_at : (before : ℤ) (head : List Series) (i : ℕ) (e : Series) → slice_get (trimmed before head) i ≡ Some e → (s : Stored) × ((slice_get head i ≡ Some (e.0, s)) × (after_trim s before ≡ e.1))
trimmed_at before [] i e h = cc
trimmed_at before (s ∷ head) zero e h = let same : (s.0, after_trim s.1 before) ≡ e = cc in (s.1, (ap (λ (x : Series). Some (x.0, s.1)) same, ap (λ (x : Series). x.1) same))
trimmed_at before (s ∷ head) (suc i) e h = trimmed_at before head i e h

abbrev pub AreRising : List Series → Type 0
AreRising head = (i : ℕ) (e : Series) → slice_get head i ≡ Some e → IsNonDecreasingBy (λ x. x.time) e.1.held

pub holds_trimmed : (head : List Series) (history : List Entry) (before : ℤ) → AreRising head → Holds head history → Holds (trimmed before head) history
holds_trimmed head history before up h = record {
  numbered = sets_trimmed before head ∙ h.numbered;
  each = λ i e at.
      let found = trimmed_at before head i e at in
      subst (IsKept history e.0) found.1.1 (kept_trimmed history e.0 found.0 before (up i (e.0, found.0) found.1.0) (h.each i (e.0, found.0) found.1.0));
}

-- how many are until a moment, behind some first ones
until_behind : (y : ℤ) (t k : ℕ) (xs : List Timed) → Rises t xs → length (filter (λ z. is_until y z.time) (drop k xs)) ≡ length (filter (λ z. is_until y z.time) xs) - k
until_behind y t zero [] r = refl
until_behind y t zero (x ∷ xs) r = omega arith
until_behind y t (suc k) [] r = omega arith
until_behind y t (suc k) (x ∷ xs) r = by (is_until y x.time) refl (until_behind y x.time k xs r.1) where
  by : (b : Bool) → is_until y x.time ≡ b → length (filter (λ z. is_until y z.time) (drop k xs)) ≡ length (filter (λ z. is_until y z.time) xs) - k
      → length (filter (λ z. is_until y z.time) (drop k xs)) ≡ length (cond b (x ∷ filter (λ z. is_until y z.time) xs) (filter (λ z. is_until y z.time) xs)) - suc k
  by true e rest = omega arith
  by false e rest = let none = ap length (none_later y x.time xs r.1 e) in omega arith

not_after : (y : ℤ) (t : ℕ) → is_until y t ≡ not (is_after y t)
not_after (pos y) t = grind (arith, common_steps)
not_after (negsuc y) t = refl

until_up : (x y : ℤ) (t : ℕ) → x ≤ℤ y → is_until x t ≡ true → is_until y t ≡ true
until_up (pos x) (pos y) t h k = grind (arith, common_steps)
until_up (pos x) (negsuc y) t h k = absurd h.le
until_up (negsuc x) y t h k = cc

more_until : (x y : ℤ) (xs : List Timed) → x ≤ℤ y → length (filter (λ z. is_until x z.time) xs) ≤ length (filter (λ z. is_until y z.time) xs)
more_until x y [] h = omega arith
more_until x y (z ∷ xs) h = by (is_until x z.time) refl (is_until y z.time) refl (more_until x y xs h) where
  by : (b : Bool) → is_until x z.time ≡ b → (c : Bool) → is_until y z.time ≡ c → length (filter (λ w. is_until x w.time) xs) ≤ length (filter (λ w. is_until y w.time) xs)
      → length (cond b (z ∷ filter (λ w. is_until x w.time) xs) (filter (λ w. is_until x w.time) xs)) ≤ length (cond c (z ∷ filter (λ w. is_until y w.time) xs) (filter (λ w. is_until y w.time) xs))
  by true e true f rest = omega arith
  by true e false f rest = let up = until_up x y z.time h e in absurd cc
  by false e true f rest = omega arith
  by false e false f rest = rest

pub whole_trimmed : (head : List Series) (history : List Entry) (before x y : ℤ) → IsLawful history → Holds head history → IsWhole head history x → x ≤ℤ y → before ≤ℤ y → IsWhole (trimmed before head) history y
whole_trimmed head history before x y lawful h whole low lower = λ i e at.
    let found = trimmed_at before head i e at in
    let s = found.0 in
    let kept = h.each i (e.0, s) found.1.0 in
    let first : s.first ≤ entries_until history e.0 x = whole i (e.0, s) found.1.0 in
    let xs = samples_of history e.0 in
    let rises = rising_samples e.0 history lawful in
    let held : length s.held ≡ length (drop s.first xs) = ap length kept.held in
    let parts : length (filter (λ (z : Timed). is_until before z.time) s.held) + length (held_after s before) ≡ length s.held =
    omega (arith, length-filter_both (λ (z : Timed). is_after before z.time) (λ (z : Timed). is_until before z.time) (λ z. not_after before z.time) s.held) in
    let gone : length (filter (λ (z : Timed). is_until before z.time) s.held) ≡ length (filter (λ (z : Timed). is_until before z.time) xs) - s.first =
    ap (λ l. length (filter (λ (z : Timed). is_until before z.time) l)) kept.held ∙ until_behind before 0 s.first xs rises in
    let one : length (filter (λ (z : Timed). is_until x z.time) xs) ≤ length (filter (λ (z : Timed). is_until y z.time) xs) = more_until x y xs low in
    let two : length (filter (λ (z : Timed). is_until before z.time) xs) ≤ length (filter (λ (z : Timed). is_until y z.time) xs) = more_until before y xs lower in
    let counted_x = until_is history e.0 x in
    let counted_y = until_is history e.0 y in
    let now : (after_trim s before).first ≤ entries_until history e.0 y = omega arith in
    subst (λ (k : Stored). k.first ≤ entries_until history e.0 y) found.1.1 now

-- one more series trimmed
pub next_trimmed : (before : ℤ) (head : List Series) (i : ℕ) (e : Series) → slice_get head i ≡ Some e
    → set_value_at (trimmed before (take i head) ++ drop i head) i (after_trim e.1 before) ≡ trimmed before (take (i + 1) head) ++ drop (i + 1) head
next_trimmed before [] i e h = cc
next_trimmed before (s ∷ head) zero e h = let same : s ≡ e = cc in ap (λ (x : Series). (s.0, after_trim x.1 before) ∷ head) (sym same)
next_trimmed before (s ∷ head) (suc i) e h =
    let next : suc i + 1 ≡ suc (i + 1) = omega arith in
    ap (λ l. (s.0, after_trim s.1 before) ∷ l) (next_trimmed before head i e h) ∙ ap (λ n. trimmed before (take n (s ∷ head)) ++ drop n (s ∷ head)) (sym next)

pub value_next : (before : ℤ) (head : List Series) (i : ℕ) (v : Stored) → slice_get (map (λ e. e.1) (trimmed before (take i head) ++ drop i head)) i ≡ Some v → (l : List Pair) × (slice_get head i ≡ Some (l, v))
value_next before [] zero v h = cc
value_next before [] (suc i) v h = cc
value_next before (s ∷ head) zero v h = let same : s.1 ≡ v = cc in (s.0, ap (λ k. Some (s.0, k)) same)
value_next before (s ∷ head) (suc i) v h = value_next before head i v h

pub sets_partly : (before : ℤ) (head : List Series) (i : ℕ) → sets_of (trimmed before (take i head) ++ drop i head) ≡ sets_of head
sets_partly before [] zero = refl
sets_partly before [] (suc i) = refl
sets_partly before (s ∷ head) zero = refl
sets_partly before (s ∷ head) (suc i) = ap (λ l. s.0 ∷ l) (sets_partly before head i)

pub rising_next : (head : List Series) (i : ℕ) (labels : List Pair) (v : Stored) → slice_get head i ≡ Some (labels, v) → IsNonDecreasingBy (λ x. x.time) v.held
    → ((j : ℕ) (e : Series) → j < i → slice_get head j ≡ Some e → IsNonDecreasingBy (λ x. x.time) e.1.held)
    → (j : ℕ) (e : Series) → j < i + 1 → slice_get head j ≡ Some e → IsNonDecreasingBy (λ x. x.time) e.1.held
rising_next head i labels v there up before j e below at = by (nat_lt j i) refl where
  by : (b : Bool) → nat_lt j i ≡ b → IsNonDecreasingBy (λ x. x.time) e.1.held
  by true k = before j e (grind (arith, common_steps)) at
  by false k =
      let here : j ≡ i = grind (arith, common_steps) in
      let same : (labels, v) ≡ e = cc (there, at, ap (slice_get head) here) in
      subst (λ (x : Series). IsNonDecreasingBy (λ x. x.time) x.1.held) same up

pub below_length : (head : List Series) (i : ℕ) (e : Series) → slice_get head i ≡ Some e → i < length head
below_length [] i e h = cc
below_length (s ∷ head) zero e h = omega arith
below_length (s ∷ head) (suc i) e h = let rest = below_length head i e h in omega arith
