-- The series of a history, in order of first arrival.
use Rattle.std.proofs.Common.{◌≡◌, ◌≢◌, ℕ, zero, suc, ◌≤◌, Bool, true, false, cond, ◌||◌, ◌⊎◌, inl, inr, List, [], ◌∷◌, ◌++◌, length, map, filter, fold, slice_get, Some, None, refl, sym, ap, subst, ◌∙◌, arith, append-nil, true≢false}
use Rattle.std.proofs.lemmas.List.{map-append, length-append}
use Rattle.std.proofs.lemmas.List.Folds.{list_any-append}
use Rattle.std.proofs.lemmas.List.Sums.{fold-append}
use Rattle.pr_labels.specs.declared.pair.Pair.{Pair}
use Rattle.pr_labels.specs.Order.{labels_eq}
use Rattle.spec_history.specs.declared.entry.Entry.{Entry}
use Rattle.spec_history.specs.Admission.{is_of, last_entry}
use Rattle.spec_history.specs.private.Laws.{entries_of}
use Rattle.pr_labels.specs.Rising.{is_among}
use Rattle.pr_labels.proofs.LabelOrder.{labels_decide}
use Rattle.spec_history.proofs.Lawful.{of_entries, entries_more, last_more as history_last}
use Rattle.pr_head.specs.declared.timed.Timed.{Timed}
use Rattle.pr_head.specs.private.Holds.{timed, samples_of, arrived, arrivals}

pub eq_same : (l : List Pair) → labels_eq l l ≡ true
eq_same l = (labels_decide l l).1 refl

pub eq_from : (a b : List Pair) → labels_eq a b ≡ true → a ≡ b
eq_from a b h = (labels_decide a b).0 h

pub eq_apart : (a b : List Pair) → a ≢ b → labels_eq a b ≡ false
eq_apart a b h = by (labels_eq a b) refl where
  by : (r : Bool) → labels_eq a b ≡ r → labels_eq a b ≡ false
  by true e = absurd (h (eq_from a b e))
  by false e = e

pub apart_from : (a b : List Pair) → labels_eq a b ≡ false → a ≢ b
apart_from a b h e = true≢false (sym (eq_same b) ∙ ap (λ l. labels_eq l b) (sym e) ∙ h)

-- one more entry
pub arrivals_more : (history : List Entry) (e : Entry) → arrivals (history ++ e ∷ []) ≡ arrived (arrivals history) e.labels
arrivals_more history e = ap (fold arrived []) (map-append (λ (x : Entry). x.labels) history (e ∷ [])) ∙ fold-append arrived [] (map (λ (x : Entry). x.labels) history) (e.labels ∷ [])

samples_by : (labels : List Pair) (history : List Entry) (e : Entry) (b : Bool) → is_of labels e ≡ b
    → samples_of (history ++ e ∷ []) labels ≡ samples_of history labels ++ map timed (cond b (e ∷ []) [])
samples_by labels history e b h = ap (map timed) (entries_more labels history e b h) ∙ map-append timed (entries_of labels history) (cond b (e ∷ []) [])

pub samples_more : (labels : List Pair) (history : List Entry) (e : Entry) → e.labels ≡ labels → samples_of (history ++ e ∷ []) labels ≡ samples_of history labels ++ timed e ∷ []
samples_more labels history e h = samples_by labels history e true (ap (λ l. labels_eq l labels) h ∙ eq_same labels)

pub samples_other : (labels : List Pair) (history : List Entry) (e : Entry) → e.labels ≢ labels → samples_of (history ++ e ∷ []) labels ≡ samples_of history labels
samples_other labels history e h = samples_by labels history e false (eq_apart e.labels labels h) ∙ append-nil (samples_of history labels)

pub last_more : (labels : List Pair) (history : List Entry) (e : Entry) → e.labels ≡ labels → last_entry (is_of labels) (history ++ e ∷ []) ≡ Some e
last_more labels history e h = history_last labels history e true (ap (λ l. labels_eq l labels) h ∙ eq_same labels)

pub last_other : (labels : List Pair) (history : List Entry) (e : Entry) → e.labels ≢ labels → last_entry (is_of labels) (history ++ e ∷ []) ≡ last_entry (is_of labels) history
last_other labels history e h = history_last labels history e false (eq_apart e.labels labels h)

-- a series of a list comes once
abbrev pub AreApart : List (List Pair) → Type 0
AreApart sets = (i j : ℕ) (l : List Pair) → slice_get sets i ≡ Some l → slice_get sets j ≡ Some l → i ≡ j

pub among_at : (sets : List (List Pair)) (i : ℕ) (l : List Pair) → slice_get sets i ≡ Some l → is_among l sets ≡ true
among_at [] i l h = cc
among_at (s ∷ sets) zero l h = let e : s ≡ l = cc in rw (e, eq_same l) refl
among_at (s ∷ sets) (suc i) l h = by (labels_eq l s) (among_at sets i l h) where
  by : (b : Bool) → is_among l sets ≡ true → (b || is_among l sets) ≡ true
  by true k = refl
  by false k = k

-- one more at the end
at_end : (sets : List (List Pair)) (m l : List Pair) (i : ℕ) → slice_get (sets ++ m ∷ []) i ≡ Some l → (slice_get sets i ≡ Some l) ⊎ ((i ≡ length sets) × (m ≡ l))
at_end [] m l zero h = inr (refl, cc)
at_end [] m l (suc i) h = cc
at_end (s ∷ sets) m l zero h = inl h
at_end (s ∷ sets) m l (suc i) h = by (at_end sets m l i h) where
  by : (slice_get sets i ≡ Some l) ⊎ ((i ≡ length sets) × (m ≡ l)) → (slice_get sets i ≡ Some l) ⊎ ((suc i ≡ suc (length sets)) × (m ≡ l))
  by (inl k) = inl k
  by (inr k) = inr (ap suc k.0, k.1)

apart_more : (sets : List (List Pair)) (m : List Pair) → AreApart sets → is_among m sets ≡ false → AreApart (sets ++ m ∷ [])
apart_more sets m h none i j l p q = by (at_end sets m l i p) (at_end sets m l j q) where
  by : (slice_get sets i ≡ Some l) ⊎ ((i ≡ length sets) × (m ≡ l)) → (slice_get sets j ≡ Some l) ⊎ ((j ≡ length sets) × (m ≡ l)) → i ≡ j
  by (inl a) (inl b) = h i j l a b
  by (inl a) (inr b) = absurd (true≢false (sym (among_at sets i l a) ∙ ap (λ x. is_among x sets) (sym b.1) ∙ none))
  by (inr a) (inl b) = absurd (true≢false (sym (among_at sets j l b) ∙ ap (λ x. is_among x sets) (sym a.1) ∙ none))
  by (inr a) (inr b) = a.0 ∙ sym b.0

apart_arrived : (sets : List (List Pair)) (m : List Pair) → AreApart sets → AreApart (arrived sets m)
apart_arrived sets m h = by (is_among m sets) refl where
  by : (b : Bool) → is_among m sets ≡ b → AreApart (cond b sets (sets ++ m ∷ []))
  by true e = h
  by false e = apart_more sets m h e

pub arrivals_apart : (history : List Entry) → AreApart (arrivals history)
arrivals_apart = of_entries (λ h. AreApart (arrivals h)) (λ i j l p q. cc) (λ h e apart. subst AreApart (sym (arrivals_more h e)) (apart_arrived (arrivals h) e.labels apart))

-- a label set is a series exactly where an entry has it
or_true : (b : Bool) → (b || true) ≡ true
or_true true = refl
or_true false = refl

or_false : (b : Bool) → (b || false) ≡ b
or_false true = refl
or_false false = refl

among_arrived : (sets : List (List Pair)) (m l : List Pair) → is_among l (arrived sets m) ≡ (is_among l sets || labels_eq l m)
among_arrived sets m l = by (is_among m sets) refl (labels_eq l m) refl where
  by : (b : Bool) → is_among m sets ≡ b → (t : Bool) → labels_eq l m ≡ t → is_among l (cond b sets (sets ++ m ∷ [])) ≡ (is_among l sets || t)
  by true e true h = let same : l ≡ m = eq_from l m h in let there : is_among l sets ≡ true = ap (λ x. is_among x sets) same ∙ e in rw there refl
  by true e false h = sym (or_false (is_among l sets))
  by false e t h = list_any-append (labels_eq l) sets (m ∷ []) ∙ ap (λ b. is_among l sets || b) (or_false (labels_eq l m) ∙ h)

pub among_arrivals : (l : List Pair) (history : List Entry) → is_among l (arrivals history) ≡ is_among l (map (λ e. e.labels) history)
among_arrivals l = of_entries (λ h. is_among l (arrivals h) ≡ is_among l (map (λ (e : Entry). e.labels) h)) refl
    (λ h e same. ap (is_among l) (arrivals_more h e) ∙ among_arrived (arrivals h) e.labels l ∙ ap (λ b. b || labels_eq l e.labels) same
    ∙ sym (ap (is_among l) (map-append (λ (x : Entry). x.labels) h (e ∷ [])) ∙ list_any-append (labels_eq l) (map (λ (x : Entry). x.labels) h) (e.labels ∷ [])
    ∙ ap (λ b. is_among l (map (λ (x : Entry). x.labels) h) || b) (or_false (labels_eq l e.labels))))

-- where no entry has it there are no samples, and no last one
none_apart : (l m : List Pair) (sets : List (List Pair)) → (labels_eq l m || is_among l sets) ≡ false → (labels_eq m l ≡ false) × (is_among l sets ≡ false)
none_apart l m sets h = by (labels_eq l m) refl h where
  by : (b : Bool) → labels_eq l m ≡ b → (b || is_among l sets) ≡ false → (labels_eq m l ≡ false) × (is_among l sets ≡ false)
  by true e h = cc
  by false e h = (eq_apart m l (λ same. apart_from l m e (sym same)), h)

pub filter_none : (l : List Pair) (history : List Entry) → is_among l (map (λ e. e.labels) history) ≡ false → filter (is_of l) history ≡ []
filter_none l [] h = refl
filter_none l (e ∷ history) h = let parts = none_apart l e.labels (map (λ (x : Entry). x.labels) history) h in rw parts.0 (filter_none l history parts.1)

pub last_none : (l : List Pair) (history : List Entry) → is_among l (map (λ e. e.labels) history) ≡ false → last_entry (is_of l) history ≡ None
last_none l = of_entries (λ h. is_among l (map (λ (e : Entry). e.labels) h) ≡ false → last_entry (is_of l) h ≡ None) (λ h. refl)
    (λ h e none. λ k.
    let spread : (is_among l (map (λ (x : Entry). x.labels) h) || labels_eq l e.labels) ≡ false =
    sym (ap (is_among l) (map-append (λ (x : Entry). x.labels) h (e ∷ [])) ∙ list_any-append (labels_eq l) (map (λ (x : Entry). x.labels) h) (e.labels ∷ [])
    ∙ ap (λ b. is_among l (map (λ (x : Entry). x.labels) h) || b) (or_false (labels_eq l e.labels))) ∙ k in
    let parts = neither (is_among l (map (λ (x : Entry). x.labels) h)) (labels_eq l e.labels) spread in
    last_other l h e (λ same. apart_from l e.labels parts.1 (sym same)) ∙ none parts.0) where
      neither : (a b : Bool) → (a || b) ≡ false → (a ≡ false) × (b ≡ false)
      neither true b h = cc
      neither false b h = (refl, h)

-- one more entry leaves what is there at its place
pub samples_grow : (history : List Entry) (e : Entry) (labels : List Pair) → (ys : List Timed) × (samples_of (history ++ e ∷ []) labels ≡ samples_of history labels ++ ys)
samples_grow history e labels = by (labels_eq e.labels labels) refl where
  by : (b : Bool) → labels_eq e.labels labels ≡ b → (ys : List Timed) × (samples_of (history ++ e ∷ []) labels ≡ samples_of history labels ++ ys)
  by true k = (timed e ∷ [], samples_more labels history e (eq_from e.labels labels k))
  by false k = ([], samples_other labels history e (apart_from e.labels labels k) ∙ sym (append-nil (samples_of history labels)))

at_front : (xs ys : List (List Pair)) (i : ℕ) (l : List Pair) → slice_get xs i ≡ Some l → slice_get (xs ++ ys) i ≡ Some l
at_front [] ys i l h = cc
at_front (x ∷ xs) ys zero l h = h
at_front (x ∷ xs) ys (suc i) l h = at_front xs ys i l h

pub named_more : (history : List Entry) (e : Entry) (i : ℕ) (l : List Pair) → slice_get (arrivals history) i ≡ Some l → slice_get (arrivals (history ++ e ∷ [])) i ≡ Some l
named_more history e i l h = subst (λ s. slice_get s i ≡ Some l) (sym (arrivals_more history e)) (by (is_among e.labels (arrivals history))) where
  by : (b : Bool) → slice_get (cond b (arrivals history) (arrivals history ++ e.labels ∷ [])) i ≡ Some l
  by true = h
  by false = at_front (arrivals history) (e.labels ∷ []) i l h

pub longer_still : (n : ℕ) (xs ys : List Timed) → n ≤ length xs → n ≤ length (xs ++ ys)
longer_still n xs ys h = omega (arith, length-append xs ys)
