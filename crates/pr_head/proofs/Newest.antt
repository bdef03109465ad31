-- What the head answers is what the history has: counts, places, and the newest sample until a
-- moment.
use Rattle.std.proofs.Common.{◌≡◌, ℕ, zero, suc, ℤ, pos, negsuc, ◌+◌, ◌-◌, ◌≤◌, ◌<◌, nat_le, nat_lt, Bool, true, false, cond, ◌&&◌, List, [], ◌∷◌, ◌++◌, length, get_or, map, take, drop, filter, find, reverse, slice_get, Option, Some, None, option_and_then, refl, sym, ap, subst, ◌∙◌, arith}
use Rattle.std.specs.List.Sorted.{IsStrictlyIncreasing}
use Rattle.std.specs.Option.{option_map, option_or}
use Rattle.std.proofs.lemmas.List.{reverse-append, take-append-drop, length-map, length-drop}
use Rattle.std.proofs.lemmas.List.Folds.{find-append}
use Rattle.std.proofs.lemmas.Grind.{common_steps}
use Rattle.pr_labels.specs.declared.pair.Pair.{Pair}
use Rattle.spec_history.specs.declared.entry.Entry.{Entry}
use Rattle.spec_history.specs.Admission.{is_of}
use Rattle.spec_history.specs.private.Laws.{entries_of, IsLawful, entries_until}
use Rattle.spec_history.specs.Lookback.{is_recent, is_until, lookback, recent_entry, spot_at, spot_in}
use Rattle.spec_history.proofs.Lawful.{of_entries, times_rise}
use Rattle.pr_head.specs.declared.timed.Timed.{Timed}
use Rattle.pr_head.specs.private.Stored.{Stored, count_of, newest_at, sample_at}
use Rattle.pr_head.specs.private.Holds.{samples_of, timed, IsKept}
use Rattle.pr_head.specs.private.Reads.{IsPast, shown_of, spot_shown}
use Rattle.pr_head.proofs.Arrivals.{samples_more, samples_other, eq_from, apart_from}

-- how many, and the one at a place
pub count_is : (history : List Entry) (labels : List Pair) (s : Stored) → IsKept history labels s → count_of s ≡ length (entries_of labels history)
count_is history labels s k =
    let held = ap length k.held in
    let first = k.first in
    omega (arith, length-drop s.first (samples_of history labels), length-map (entries_of labels history) timed)

drop_at : (n k : ℕ) (xs : List Timed) → n ≤ k → slice_get (drop n xs) (k - n) ≡ slice_get xs k
drop_at zero k xs h = let same : k - 0 ≡ k = omega arith in ap (slice_get xs) same
drop_at (suc n) k [] h = refl
drop_at (suc n) zero (x ∷ xs) h = absurd (omega arith)
drop_at (suc n) (suc k) (x ∷ xs) h = let same : suc k - suc n ≡ k - n = omega arith in ap (slice_get (drop n xs)) same ∙ drop_at n k xs (omega arith)

pub sample_is : (history : List Entry) (labels : List Pair) (s : Stored) (place : ℕ) → IsKept history labels s → s.first ≤ place
    → sample_at s place ≡ slice_get (samples_of history labels) place
sample_is history labels s place k h =
    let not_below : nat_lt place s.first ≡ false = grind (arith, common_steps) in
    ap (λ b. cond b None (slice_get s.held (place - s.first))) not_below ∙ ap (λ l. slice_get l (place - s.first)) k.held ∙ drop_at s.first place (samples_of history labels) h

-- times do not fall, from a first one on
abbrev pub Rises : ℕ → List Timed → Type 0
Rises t [] = Unit {0}
Rises t (x ∷ xs) = (t ≤ x.time) × Rises x.time xs

-- no time is above one
abbrev pub UpTo : ℕ → List Timed → Type 0
UpTo u [] = Unit {0}
UpTo u (x ∷ xs) = (x.time ≤ u) × UpTo u xs

rises_entries : (t : ℕ) (es : List Entry) → IsStrictlyIncreasing (map (λ e. e.time) es) → (0 < length es → t ≤ get_or (map (λ e. e.time) es) 0 0) → Rises t (map timed es)
rises_entries t [] up low = tt
rises_entries t (e ∷ es) up low = (
  low (omega arith),
  rises_entries e.time es
      (λ k p. let next : suc k + 1 ≡ suc (k + 1) = omega arith in
      subst (λ n. get_or (map (λ (x : Entry). x.time) es) k 0 < get_or (map (λ (x : Entry). x.time) (e ∷ es)) n 0) next (up (suc k) (omega arith)))
      (λ p. let size = length-map es (λ (x : Entry). x.time) in
      let first : get_or (map (λ (x : Entry). x.time) (e ∷ es)) 0 0 < get_or (map (λ (x : Entry). x.time) (e ∷ es)) (0 + 1) 0 = up 0 (omega arith) in
      omega arith),
)

pub rising_samples : (labels : List Pair) (history : List Entry) → IsLawful history → Rises 0 (samples_of history labels)
rising_samples labels history lawful = rises_entries 0 (entries_of labels history) (times_rise history labels lawful) (λ p. omega arith)

-- a time that is too old for a moment, or is one of its five minutes
is_gone : ℤ → ℕ → Bool
is_gone (pos x) time = nat_le (time + lookback) x
is_gone (negsuc x) time = false

recent_until : (x : ℤ) (t : ℕ) → is_until x t ≡ false → is_recent x t ≡ false
recent_until (pos x) t h = grind (arith, common_steps)
recent_until (negsuc x) t h = refl

not_recent : (x : ℤ) (t : ℕ) → is_until x t ≡ true → is_recent x t ≡ false → is_gone x t ≡ true
unfolding is_gone
not_recent (pos x) t h k = grind (arith, common_steps)
not_recent (negsuc x) t h k = cc

gone_recent : (x : ℤ) (s t : ℕ) → is_gone x s ≡ true → t ≤ s → is_recent x t ≡ false
unfolding is_gone
gone_recent (pos x) s t h k = grind (arith, common_steps)
gone_recent (negsuc x) s t h k = cc

until_down : (x : ℤ) (s t : ℕ) → is_until x t ≡ true → s ≤ t → is_until x s ≡ true
until_down (pos x) s t h k = grind (arith, common_steps)
until_down (negsuc x) s t h k = h

-- each sample is no older than those after it
Down : List Timed → Type 0
Down [] = Unit {0}
Down (y ∷ ys) = UpTo y.time ys × Down ys

AtLeast : ℕ → List Timed → Type 0
AtLeast t [] = Unit {0}
AtLeast t (y ∷ ys) = (t ≤ y.time) × AtLeast t ys

at_least_last : (t : ℕ) (ys : List Timed) (y : Timed) → AtLeast t ys → t ≤ y.time → AtLeast t (ys ++ y ∷ [])
unfolding AtLeast
at_least_last t [] y h k = (k, tt)
at_least_last t (z ∷ ys) y h k = (h.0, at_least_last t ys y h.1 k)

at_least_less : (s t : ℕ) (ys : List Timed) → s ≤ t → AtLeast t ys → AtLeast s ys
unfolding AtLeast
at_least_less s t [] h k = tt
at_least_less s t (y ∷ ys) h k = let first = k.0 in (omega arith, at_least_less s t ys h k.1)

up_to_end : (u : ℕ) (ys : List Timed) (y : Timed) → UpTo u ys → y.time ≤ u → UpTo u (ys ++ y ∷ [])
up_to_end u [] y h k = (k, tt)
up_to_end u (z ∷ ys) y h k = (h.0, up_to_end u ys y h.1 k)

down_last : (ys : List Timed) (y : Timed) → Down ys → AtLeast y.time ys → Down (ys ++ y ∷ [])
unfolding Down AtLeast
down_last [] y h k = (tt, tt)
down_last (z ∷ ys) y h k = (up_to_end z.time ys y h.0 k.0, down_last ys y h.1 k.1)

reversed : (t : ℕ) (xs : List Timed) → Rises t xs → Down (reverse xs) × AtLeast t (reverse xs)
unfolding Down AtLeast
reversed t [] h = (tt, tt)
reversed t (x ∷ xs) h =
    let rest = reversed x.time xs h.1 in
    let is : reverse (x ∷ xs) ≡ reverse xs ++ x ∷ [] = reverse-append (x ∷ []) xs in
    let low = h.0 in
    (subst Down (sym is) (down_last (reverse xs) x rest.0 rest.1), subst (AtLeast t) (sym is) (at_least_last t (reverse xs) x (at_least_less t x.time (reverse xs) low rest.1) low))

rises_drop : (n t : ℕ) (ys : List Timed) → Rises t ys → Rises 0 (drop n ys)
rises_drop zero t [] h = tt
rises_drop zero t (y ∷ ys) h = (omega arith, h.1)
rises_drop (suc n) t [] h = tt
rises_drop (suc n) t (y ∷ ys) h = rises_drop n y.time ys h.1

none_recent : (x : ℤ) (s : ℕ) (ys : List Timed) → is_gone x s ≡ true → UpTo s ys → find (λ t. is_recent x t.time) ys ≡ None
none_recent x s [] h k = refl
none_recent x s (y ∷ ys) h k = ap (λ b. cond b (Some y) (find (λ t. is_recent x t.time) ys)) (gone_recent x s y.time h k.0) ∙ none_recent x s ys h k.1

only_recent : ℤ → Option Timed → Option Timed
only_recent x o = option_and_then (λ t. cond (is_recent x t.time) (Some t) None) o

-- the first recent one is the first until the moment, if that is recent
recent_first : (x : ℤ) (ys : List Timed) → Down ys → find (λ t. is_recent x t.time) ys ≡ only_recent x (find (λ t. is_until x t.time) ys)
unfolding Down only_recent
recent_first x [] h = refl
recent_first x (y ∷ ys) h = by (is_until x y.time) refl (is_recent x y.time) refl (recent_first x ys h.1) where
  by : (u : Bool) → is_until x y.time ≡ u → (r : Bool) → is_recent x y.time ≡ r → find (λ t. is_recent x t.time) ys ≡ only_recent x (find (λ t. is_until x t.time) ys)
      → cond r (Some y) (find (λ t. is_recent x t.time) ys) ≡ only_recent x (cond u (Some y) (find (λ t. is_until x t.time) ys))
  by true e true f rest = ap (λ b. cond b (Some y) None) (sym f)
  by true e false f rest = none_recent x y.time ys (not_recent x y.time e f) h.0 ∙ ap (λ b. cond b (Some y) None) (sym f)
  by false e true f rest = let no = recent_until x y.time e in cc
  by false e false f rest = rest

-- the samples until a moment come first
pub none_later : (y : ℤ) (s : ℕ) (zs : List Timed) → Rises s zs → is_until y s ≡ false → filter (λ z. is_until y z.time) zs ≡ []
none_later y s [] r e = refl
none_later y s (z ∷ zs) r e = by (is_until y z.time) refl (none_later y z.time zs r.1) where
  by : (b : Bool) → is_until y z.time ≡ b → (is_until y z.time ≡ false → filter (λ w. is_until y w.time) zs ≡ []) → cond b (z ∷ filter (λ w. is_until y w.time) zs) (filter (λ w. is_until y w.time) zs) ≡ []
  by true f more = let earlier = until_down y s z.time f r.0 in cc
  by false f more = more f

-- those that may be forgotten are not recent
past_front : (x y : ℤ) (n t : ℕ) (xs : List Timed) → IsPast y x → Rises t xs → n ≤ length (filter (λ z. is_until y z.time) xs) → find (λ z. is_recent x z.time) (reverse (take n xs)) ≡ None
past_front x y zero t xs past h k = refl
past_front x y (suc n) t [] past h k = refl
past_front x y (suc n) t (z ∷ xs) past h k = by (is_until y z.time) refl k (past_front x y n z.time xs past h.1) where
  by : (b : Bool) → is_until y z.time ≡ b → suc n ≤ length (cond b (z ∷ filter (λ w. is_until y w.time) xs) (filter (λ w. is_until y w.time) xs))
      → (n ≤ length (filter (λ w. is_until y w.time) xs) → find (λ w. is_recent x w.time) (reverse (take n xs)) ≡ None) → find (λ w. is_recent x w.time) (reverse (z ∷ take n xs)) ≡ None
  by true e low more =
      ap (find (λ w. is_recent x w.time)) (reverse-append (z ∷ []) (take n xs)) ∙ find-append (λ w. is_recent x w.time) (reverse (take n xs)) (z ∷ [])
      ∙ (λ i. option_or (more (omega arith) i) (cond (past z.time e i) (Some z) None))
  by false e low more = let none = none_later y z.time xs h.1 e in let size = ap length none in absurd (omega arith)

-- the last recent entry of a series is its last recent sample
last_recent : (x : ℤ) (labels : List Pair) (history : List Entry) → option_map timed (recent_entry history x labels) ≡ find (λ t. is_recent x t.time) (reverse (samples_of history labels))
last_recent x labels = of_entries (λ h. option_map timed (recent_entry h x labels) ≡ find (λ t. is_recent x t.time) (reverse (samples_of h labels))) refl step where
  step : (h : List Entry) (e : Entry) → option_map timed (recent_entry h x labels) ≡ find (λ t. is_recent x t.time) (reverse (samples_of h labels))
      → option_map timed (recent_entry (h ++ e ∷ []) x labels) ≡ find (λ t. is_recent x t.time) (reverse (samples_of (h ++ e ∷ []) labels))
  step h e rest = ap (λ l. option_map timed (find (λ y. is_of labels y && is_recent x y.time) l)) (reverse-append h (e ∷ [])) ∙ by (is_of labels e) refl (is_recent x e.time) refl where
    by : (b : Bool) → is_of labels e ≡ b → (r : Bool) → is_recent x e.time ≡ r → option_map timed (cond (b && r) (Some e) (recent_entry h x labels)) ≡ find (λ t. is_recent x t.time) (reverse (samples_of (h ++ e ∷ []) labels))
    by true k r f =
        let is = samples_more labels h e (eq_from e.labels labels k) in
        one r f ∙ ap (find (λ t. is_recent x t.time)) (sym (ap reverse is ∙ reverse-append (samples_of h labels) (timed e ∷ []))) where
          one : (r : Bool) → is_recent x e.time ≡ r → option_map timed (cond r (Some e) (recent_entry h x labels)) ≡ find (λ t. is_recent x t.time) (timed e ∷ reverse (samples_of h labels))
          one true f = ap (λ b. cond b (Some (timed e)) (find (λ t. is_recent x t.time) (reverse (samples_of h labels)))) (sym f)
          one false f = rest ∙ ap (λ b. cond b (Some (timed e)) (find (λ t. is_recent x t.time) (reverse (samples_of h labels)))) (sym f)
    by false k r f = rest ∙ ap (λ l. find (λ t. is_recent x t.time) (reverse l)) (sym (samples_other labels h e (apart_from e.labels labels k)))

pub until_is : (history : List Entry) (labels : List Pair) (y : ℤ) → entries_until history labels y ≡ length (filter (λ t. is_until y t.time) (samples_of history labels))
until_is [] labels y = refl
until_is (e ∷ history) labels y = by (is_of labels e) (is_until y e.time) refl (until_is history labels y) where
  by : (b u : Bool) → is_until y e.time ≡ u → entries_until history labels y ≡ length (filter (λ t. is_until y t.time) (samples_of history labels))
      → length (cond (b && u) (e ∷ filter (λ z. is_of labels z && is_until y z.time) history) (filter (λ z. is_of labels z && is_until y z.time) history))
      ≡ length (filter (λ t. is_until y t.time) (map timed (cond b (e ∷ entries_of labels history) (entries_of labels history))))
  by true true k rest = rw k (ap suc rest)
  by true false k rest = rw k rest
  by false u k rest = rest

-- the newest held sample, if it is recent, is the last recent entry
newest_recent : (history : List Entry) (x y : ℤ) (labels : List Pair) (s : Stored) → IsLawful history → IsKept history labels s → s.first ≤ entries_until history labels y → IsPast y x
    → option_map timed (recent_entry history x labels) ≡ only_recent x (newest_at s x)
unfolding only_recent
newest_recent history x y labels s lawful kept first past =
    let xs = samples_of history labels in
    let rising = rising_samples labels history lawful in
    let counted = until_is history labels y in
    let front = past_front x y s.first 0 xs past rising (omega arith) in
    let down = (reversed 0 (drop s.first xs) (rises_drop s.first 0 xs rising)).0 in
    last_recent x labels history
    ∙ ap (λ l. find (λ t. is_recent x t.time) (reverse l)) (sym (take-append-drop s.first xs))
    ∙ ap (find (λ t. is_recent x t.time)) (reverse-append (take s.first xs) (drop s.first xs))
    ∙ find-append (λ t. is_recent x t.time) (reverse (drop s.first xs)) (reverse (take s.first xs))
    ∙ ap (option_or (find (λ t. is_recent x t.time) (reverse (drop s.first xs)))) front ∙ or_none (find (λ t. is_recent x t.time) (reverse (drop s.first xs)))
    ∙ recent_first x (reverse (drop s.first xs)) down
    ∙ ap (λ l. only_recent x (find (λ t. is_until x t.time) (reverse l))) (sym kept.held) where
      or_none : {A : Type 0} (o : Option A) → option_or o None ≡ o
      or_none None = refl
      or_none (Some a) = refl

pub newest_is_shown : (history : List Entry) (x y : ℤ) (labels : List Pair) (s : Stored) → IsLawful history → IsKept history labels s → s.first ≤ entries_until history labels y → IsPast y x
    → spot_at history x labels ≡ spot_shown x (newest_at s x)
unfolding only_recent
newest_is_shown history x y labels s lawful kept first past =
    same (recent_entry history x labels) ∙ ap (option_and_then shown_of) (newest_recent history x y labels s lawful kept first past) ∙ by (newest_at s x) where
      same : (o : Option Entry) → option_and_then spot_in o ≡ option_and_then shown_of (option_map timed o)
      same None = refl
      same (Some e) = refl

      by : (o : Option Timed) → option_and_then shown_of (only_recent x o) ≡ spot_shown x o
      by None = refl
      by (Some t) = one (is_recent x t.time) where
        one : (b : Bool) → option_and_then shown_of (cond b (Some t) None) ≡ cond b (shown_of t) None
        one true = refl
        one false = refl
