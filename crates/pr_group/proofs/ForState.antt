-- The newest sample of the last hour of a series, as a head tells it.
use Rattle.std.proofs.Common.{◌≡◌, ℕ, zero, suc, pos, negsuc, ℤ, ◌-ℤ◌, ◌+◌, ◌≤◌, nat_le, Bool, true, false, cond, ◌&&◌, ◌||◌, List, [], ◌∷◌, ◌++◌, length, map, take, drop, filter, find, reverse, slice_get, Option, Some, None, option_and_then, refl, sym, ap, subst, ◌∙◌, arith}
use Rattle.std.specs.Option.{option_map, option_or}
use Rattle.std.specs.Map.{lookup}
use Rattle.std.proofs.lemmas.List.{reverse-append, take-append-drop}
use Rattle.std.proofs.lemmas.List.Folds.{find-append}
use Rattle.std.proofs.lemmas.Int.{ints}
use Rattle.std.proofs.lemmas.Bool.Decides.{nat_tests}
use borrow.Author.Tests.{leb-true}
use Rattle.pr_ast.specs.pr_labels.declared.pair.Pair.{Pair}
use Rattle.pr_ast.specs.pr_labels.Order.{labels_eq}
use Rattle.pr_ast.specs.pr_labels.Rising.{is_among}
use Rattle.pr_rule.specs.spec_history.declared.entry.Entry.{Entry}
use Rattle.pr_rule.specs.spec_history.private.Laws.{IsLawful, entries_until}
use Rattle.pr_rule.specs.spec_history.Admission.{is_of, last_entry}
use Rattle.pr_rule.specs.spec_history.Lookback.{is_until}
use Rattle.pr_rule.proofs.HistoryLawful.{of_entries}
use Rattle.pr_rule.specs.pr_head.declared.timed.Timed.{Timed}
use Rattle.pr_rule.specs.pr_head.private.Stored.{Stored, newest_at}
use Rattle.pr_rule.specs.pr_head.private.Holds.{Holds, IsKept, samples_of, sets_of, timed}
use Rattle.pr_rule.proofs.HeadArrivals.{among_arrivals, apart_from, eq_from, eq_same, samples_more, samples_other}
use Rattle.pr_rule.proofs.HeadNewest.{Rises, UpTo, none_later, rising_samples, until_is}
use Rattle.pr_rule.proofs.HeadSimulation.{lookup_none}
use Rattle.pr_rule.specs.pr_head.private.Intake.{Series}
use Rattle.pr_group.specs.private.Keeping.{MayEvaluateOver}
use Rattle.pr_group.specs.private.Restoring.{in_last_hour, kept_of_last_hour}

-- of a test that one time passes, or is too old for: as old ones are too
module _ (now : ℕ) where
  abbrev recent : ℕ → Bool
  recent t = in_last_hour now t

  too_old : (s t : ℕ) → nat_le s now ≡ true → recent s ≡ false → t ≤ s → recent t ≡ false
  too_old s t h k l = grind (arith, nat_tests)

  until_first : (t : ℕ) → nat_le t now ≡ false → recent t ≡ false
  until_first t h = ap (λ (b : Bool). b && nat_le now (t + 3600000)) h

  none_recent : (s : ℕ) (ys : List Timed) → nat_le s now ≡ true → recent s ≡ false → UpTo s ys → find (λ t. recent t.time) ys ≡ None
  none_recent s [] h k u = refl
  none_recent s (y ∷ ys) h k u = ap (λ b. cond b (Some y) (find (λ t. recent t.time) ys)) (too_old s y.time h k u.0) ∙ none_recent s ys h k u.1

  -- each sample is no older than those after it
  abbrev Down : List Timed → Type 0
  Down [] = Unit {0}
  Down (y ∷ ys) = UpTo y.time ys × Down ys

  abbrev AtLeast : ℕ → List Timed → Type 0
  AtLeast t [] = Unit {0}
  AtLeast t (y ∷ ys) = (t ≤ y.time) × AtLeast t ys

  at_least_last : (t : ℕ) (ys : List Timed) (y : Timed) → AtLeast t ys → t ≤ y.time → AtLeast t (ys ++ y ∷ [])
  at_least_last t [] y h k = (k, tt)
  at_least_last t (z ∷ ys) y h k = (h.0, at_least_last t ys y h.1 k)

  at_least_less : (s t : ℕ) (ys : List Timed) → s ≤ t → AtLeast t ys → AtLeast s ys
  at_least_less s t [] h k = tt
  at_least_less s t (y ∷ ys) h k = let first = k.0 in (omega arith, at_least_less s t ys h k.1)

  up_to_end : (u : ℕ) (ys : List Timed) (y : Timed) → UpTo u ys → y.time ≤ u → UpTo u (ys ++ y ∷ [])
  up_to_end u [] y h k = (k, tt)
  up_to_end u (z ∷ ys) y h k = (h.0, up_to_end u ys y h.1 k)

  down_last : (ys : List Timed) (y : Timed) → Down ys → AtLeast y.time ys → Down (ys ++ y ∷ [])
  down_last [] y h k = (tt, tt)
  down_last (z ∷ ys) y h k = (up_to_end z.time ys y h.0 k.0, down_last ys y h.1 k.1)

  reversed : (t : ℕ) (xs : List Timed) → Rises t xs → Down (reverse xs) × AtLeast t (reverse xs)
  reversed t [] h = (tt, tt)
  reversed t (x ∷ xs) h =
      let rest = reversed x.time xs h.1 in
      let is : reverse (x ∷ xs) ≡ reverse xs ++ x ∷ [] = reverse-append (x ∷ []) xs in
      let low = h.0 in
      (subst Down (sym is) (down_last (reverse xs) x rest.0 rest.1), subst (AtLeast t) (sym is) (at_least_last t (reverse xs) x (at_least_less t x.time (reverse xs) low rest.1) low))

  rises_drop : (n t : ℕ) (ys : List Timed) → Rises t ys → Rises 0 (drop n ys)
  rises_drop zero t [] h = tt
  rises_drop zero t (y ∷ ys) h = (omega arith, h.1)
  rises_drop (suc n) t [] h = tt
  rises_drop (suc n) t (y ∷ ys) h = rises_drop n y.time ys h.1

  -- the first of the last hour is the first until now, if that is of the last hour
  recent_first : (ys : List Timed) → Down ys → find (λ t. recent t.time) ys ≡ kept_of_last_hour now (find (λ t. is_until (pos now) t.time) ys)
  recent_first [] h = refl
  recent_first (y ∷ ys) h = by (nat_le y.time now) refl (recent y.time) refl (recent_first ys h.1) where
    by : (u : Bool) → nat_le y.time now ≡ u → (r : Bool) → recent y.time ≡ r → find (λ t. recent t.time) ys ≡ kept_of_last_hour now (find (λ t. is_until (pos now) t.time) ys)
        → cond r (Some y) (find (λ t. recent t.time) ys) ≡ kept_of_last_hour now (cond u (Some y) (find (λ t. is_until (pos now) t.time) ys))
    by true e true f rest = ap (λ b. cond b (Some y) None) (sym f)
    by true e false f rest = none_recent y.time ys e f h.0 ∙ ap (λ b. cond b (Some y) None) (sym f)
    by false e true f rest = let no = until_first y.time e in cc
    by false e false f rest = rest

  until_down : (x : ℤ) (s t : ℕ) → is_until x t ≡ true → s ≤ t → is_until x s ≡ true
  until_down (pos x) s t h k = grind (arith, nat_tests)
  until_down (negsuc x) s t h k = h

  -- what stands until a moment that long ago is not of the last hour
  past_hour : (t : ℕ) → is_until (pos now -ℤ pos 3888000000) t ≡ true → recent t ≡ false
  past_hour t h = by (pos now -ℤ pos 3888000000) refl h where
    by : (x : ℤ) → pos now -ℤ pos 3888000000 ≡ x → is_until x t ≡ true → recent t ≡ false
    by (pos x) e k =
        let low : t ≤ x = leb-true t x k in
        let far : x + 3888000000 ≡ now = omega (arith, ints, e) in
        grind (arith, nat_tests)
    by (negsuc x) e k = absurd (cc)

  abbrev y : ℤ
  y = pos now -ℤ pos 3888000000

  -- those that may be forgotten are not of the last hour
  past_front : (n t : ℕ) (xs : List Timed) → Rises t xs → n ≤ length (filter (λ z. is_until (pos now -ℤ pos 3888000000) z.time) xs) → find (λ z. recent z.time) (reverse (take n xs)) ≡ None
  past_front zero t xs h k = refl
  past_front (suc n) t [] h k = refl
  past_front (suc n) t (z ∷ xs) h k = by (is_until y z.time) refl k (past_front n z.time xs h.1) where
    by : (b : Bool) → is_until y z.time ≡ b → suc n ≤ length (cond b (z ∷ filter (λ w. is_until y w.time) xs) (filter (λ w. is_until y w.time) xs))
        → (n ≤ length (filter (λ w. is_until y w.time) xs) → find (λ w. recent w.time) (reverse (take n xs)) ≡ None) → find (λ w. recent w.time) (reverse (z ∷ take n xs)) ≡ None
    by true e low more =
        ap (find (λ w. recent w.time)) (reverse-append (z ∷ []) (take n xs)) ∙ find-append (λ w. recent w.time) (reverse (take n xs)) (z ∷ [])
        ∙ (λ i. option_or (more (omega arith) i) (cond (past_hour z.time e i) (Some z) None))
    by false e low more = let none = none_later y z.time xs h.1 e in let size = ap length none in absurd (omega arith)

  -- the last entry of a series in the last hour is its last sample there
  last_recent : (labels : List Pair) (history : List Entry) → option_map timed (last_entry (λ e. is_of labels e && recent e.time) history) ≡ find (λ t. recent t.time) (reverse (samples_of history labels))
  last_recent labels = of_entries (λ h. option_map timed (last_entry (λ e. is_of labels e && recent e.time) h) ≡ find (λ t. recent t.time) (reverse (samples_of h labels))) refl step where
    step : (h : List Entry) (e : Entry) → option_map timed (last_entry (λ x. is_of labels x && recent x.time) h) ≡ find (λ t. recent t.time) (reverse (samples_of h labels))
        → option_map timed (last_entry (λ x. is_of labels x && recent x.time) (h ++ e ∷ [])) ≡ find (λ t. recent t.time) (reverse (samples_of (h ++ e ∷ []) labels))
    step h e rest = ap (λ l. option_map timed (find (λ y. is_of labels y && recent y.time) l)) (reverse-append h (e ∷ [])) ∙ by (is_of labels e) refl (recent e.time) refl where
      by : (b : Bool) → is_of labels e ≡ b → (r : Bool) → recent e.time ≡ r
          → option_map timed (cond (b && r) (Some e) (last_entry (λ x. is_of labels x && recent x.time) h)) ≡ find (λ t. recent t.time) (reverse (samples_of (h ++ e ∷ []) labels))
      by true k r f =
          let is = samples_more labels h e (eq_from e.labels labels k) in
          one r f ∙ ap (find (λ t. recent t.time)) (sym (ap reverse is ∙ reverse-append (samples_of h labels) (timed e ∷ []))) where
            one : (r : Bool) → recent e.time ≡ r → option_map timed (cond r (Some e) (last_entry (λ x. is_of labels x && recent x.time) h)) ≡ find (λ t. recent t.time) (timed e ∷ reverse (samples_of h labels))
            one true f = ap (λ b. cond b (Some (timed e)) (find (λ t. recent t.time) (reverse (samples_of h labels)))) (sym f)
            one false f = rest ∙ ap (λ b. cond b (Some (timed e)) (find (λ t. recent t.time) (reverse (samples_of h labels)))) (sym f)
      by false k r f = rest ∙ ap (λ l. find (λ t. recent t.time) (reverse l)) (sym (samples_other labels h e (apart_from e.labels labels k)))

  or_none : {A : Type 0} (o : Option A) → option_or o None ≡ o
  or_none None = refl
  or_none (Some a) = refl

  newest_recent : (history : List Entry) (labels : List Pair) (s : Stored) → IsLawful history → IsKept history labels s → s.first ≤ entries_until history labels (pos now -ℤ pos 3888000000)
      → option_map timed (last_entry (λ e. is_of labels e && recent e.time) history) ≡ kept_of_last_hour now (newest_at s (pos now))
  newest_recent history labels s lawful kept first =
      let xs = samples_of history labels in
      let rising = rising_samples labels history lawful in
      let counted = until_is history labels (pos now -ℤ pos 3888000000) in
      let front = past_front s.first 0 xs rising (omega arith) in
      let down = (reversed 0 (drop s.first xs) (rises_drop s.first 0 xs rising)).0 in
      last_recent labels history
      ∙ ap (λ l. find (λ t. recent t.time) (reverse l)) (sym (take-append-drop s.first xs))
      ∙ ap (find (λ t. recent t.time)) (reverse-append (take s.first xs) (drop s.first xs))
      ∙ find-append (λ t. recent t.time) (reverse (drop s.first xs)) (reverse (take s.first xs))
      ∙ ap (option_or (find (λ t. recent t.time) (reverse (drop s.first xs)))) front ∙ or_none (find (λ t. recent t.time) (reverse (drop s.first xs)))
      ∙ recent_first (reverse (drop s.first xs)) down
      ∙ ap (λ l. kept_of_last_hour now (find (λ t. is_until (pos now) t.time) (reverse l))) (sym kept.held)

  -- a series that is not there has no entries
  none_of : (labels : List Pair) (history : List Entry) → is_among labels (map (λ e. e.labels) history) ≡ false → samples_of history labels ≡ []
  none_of labels [] h = refl
  none_of labels (e ∷ history) h = by (labels_eq e.labels labels) refl h (λ k. none_of labels history k) where
    by : (b : Bool) → labels_eq e.labels labels ≡ b → is_among labels (e.labels ∷ map (λ x. x.labels) history) ≡ false → (is_among labels (map (λ x. x.labels) history) ≡ false → samples_of history labels ≡ [])
        → map timed (cond b (e ∷ filter (is_of labels) history) (filter (is_of labels) history)) ≡ []
    by true k h more = absurd (no (eq_from e.labels labels k) h) where
      no : e.labels ≡ labels → is_among labels (e.labels ∷ map (λ x. x.labels) history) ≡ false → ⊥
      no same h = let there : labels_eq labels e.labels ≡ true = ap (labels_eq labels) same ∙ eq_same labels in cc
    by false k h more = more (rest (labels_eq labels e.labels) h) where
      rest : (b : Bool) → (b || is_among labels (map (λ x. x.labels) history)) ≡ false → is_among labels (map (λ x. x.labels) history) ≡ false
      rest true h = absurd cc
      rest false h = h

-- what a head tells of the last hour of a series that it has
pub told_there : (head : Series) (history : List Entry) (now i : ℕ) (labels : List Pair) → MayEvaluateOver head history now → slice_get (sets_of head) i ≡ Some labels
    → option_map timed (last_entry (λ e. is_of labels e && in_last_hour now e.time) history) ≡ kept_of_last_hour now (option_and_then (λ e. newest_at e.1 (pos now)) (slice_get head i))
told_there head history now i labels over named = by (slice_get head i) refl (named_at head i labels named) where
  named_at : (xs : Series) (k : ℕ) (l : List Pair) → slice_get (sets_of xs) k ≡ Some l → option_map (λ e. e.0) (slice_get xs k) ≡ Some l
  named_at [] zero l h = h
  named_at [] (suc k) l h = h
  named_at (x ∷ xs) zero l h = h
  named_at (x ∷ xs) (suc k) l h = named_at xs k l h

  by : (o : Option (List Pair × Stored)) → slice_get head i ≡ o → option_map (λ e. e.0) o ≡ Some labels
      → option_map timed (last_entry (λ e. is_of labels e && in_last_hour now e.time) history) ≡ kept_of_last_hour now (option_and_then (λ e. newest_at e.1 (pos now)) o)
  by None e h = absurd (cc)
  by (Some x) e h =
      let same : x.0 ≡ labels = cc in
      newest_recent now history labels x.1 over.lawful (subst (λ (l : List Pair). IsKept history l x.1) same (over.holds.each i x e))
      (subst (λ (l : List Pair). x.1.first ≤ entries_until history l (pos now -ℤ pos 3888000000)) same (over.whole i x e))

-- and of one that it has not
pub told_nowhere : (head : Series) (history : List Entry) (now : ℕ) (labels : List Pair) → Holds head history → lookup (labels_eq labels) head ≡ None
    → option_map timed (last_entry (λ e. is_of labels e && in_last_hour now e.time) history) ≡ None
told_nowhere head history now labels holds none =
    let absent : is_among labels (map (λ (e : Entry). e.labels) history) ≡ false = sym (among_arrivals labels history) ∙ ap (is_among labels) (sym holds.numbered) ∙ lookup_none labels head none in
    last_recent now labels history ∙ ap (λ l. find (λ t. in_last_hour now t.time) (reverse l)) (none_of now labels history absent)
