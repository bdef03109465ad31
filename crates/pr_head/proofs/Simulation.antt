-- One more sample of a head is one more entry of the history that it stands for.
use Rattle.std.proofs.Common.{◌≡◌, ◌≢◌, ◌↔◌, ◌&&◌, ℤ, ℕ, zero, suc, ◌+◌, ◌-◌, ◌==◌, nat_lt, ◌<◌, ◌≤◌, Bool, true, false, cond, ◌||◌, ◌⊎◌, inl, inr, List, [], ◌∷◌, ◌++◌, length, map, filter, drop, slice_get, position, IfSome, Option, Some, None, refl, sym, ap, subst, ◌∙◌, arith}
use Rattle.std.specs.List.{position_from}
use Rattle.std.proofs.lemmas.Iterator.Adapters.{position_from-zero}
use Rattle.std.proofs.lemmas.Grind.{common_steps}
use Rattle.spec_history.specs.pr_num.Same.{same_point}
use Rattle.std.specs.Map.{lookup}
use Rattle.std.proofs.lemmas.List.Elements.{filter-append}
use Rattle.spec_history.specs.private.Laws.{entries_until}
use Rattle.spec_history.specs.Lookback.{is_until}
use Rattle.std.specs.Option.{option_map}
use Rattle.std.proofs.lemmas.Option.{slice_get-map}
use Rattle.pr_labels.proofs.LabelOrder.{labels_decide}
use Rattle.std.proofs.lemmas.List.{map-append, length-append, drop-append-le}
use Rattle.indexmap.specs.IndexMap.{set_value_at}
use Rattle.spec_history.specs.pr_num.declared.value.Point.{Point}
use Rattle.pr_labels.specs.declared.pair.Pair.{Pair}
use Rattle.pr_labels.specs.Order.{labels_eq}
use Rattle.spec_history.specs.declared.entry.Entry.{Entry}
use Rattle.spec_history.specs.declared.append.Append.TheVariants.{Added, Same, OutOfOrder, Conflict}
use Rattle.spec_history.specs.declared.append.Append.{Append}
use Rattle.spec_history.specs.Admission.{is_of, last_entry, admit, admit_after, put, put_by}
use Rattle.pr_labels.specs.Rising.{is_among}
use Rattle.pr_head.specs.declared.timed.Timed.{Timed}
use Rattle.pr_head.specs.private.Stored.{Stored, admission, after_push, begun, stored}
use Rattle.pr_head.specs.private.Holds.{timed, samples_of, arrivals, sets_of, IsKept, Holds, IsWhole}
use Rattle.pr_head.proofs.Arrivals.{arrivals_more, arrivals_apart, among_arrivals, among_at, samples_more, samples_other, last_more, last_other, filter_none, last_none, eq_from}

abbrev Series : Type 0
Series = List Pair × Stored

-- what is there is found by its labels
pub lookup_none : (l : List Pair) (head : List Series) → lookup (labels_eq l) head ≡ None → is_among l (sets_of head) ≡ false
lookup_none l [] h = refl
lookup_none l (s ∷ head) h = by (labels_eq l s.0) h (lookup_none l head) where
  by : (b : Bool) → cond b (Some s.1) (lookup (labels_eq l) head) ≡ None → (lookup (labels_eq l) head ≡ None → is_among l (sets_of head) ≡ false) → (b || is_among l (sets_of head)) ≡ false
  by true h more = cc
  by false h more = more h

-- a series that is written over
pub sets_written : (head : List Series) (i : ℕ) (w : Stored) → sets_of (set_value_at head i w) ≡ sets_of head
sets_written [] i w = refl
sets_written (s ∷ head) zero w = refl
sets_written (s ∷ head) (suc i) w = ap (λ l. s.0 ∷ l) (sets_written head i w)

pub written_at : (head : List Series) (i j : ℕ) (w : Stored) (e : Series) → slice_get (set_value_at head i w) j ≡ Some e
    → ((j ≡ i) × (e.1 ≡ w) × (slice_get (sets_of head) i ≡ Some e.0)) ⊎ ((j ≢ i) × (slice_get head j ≡ Some e))
written_at [] i j w e h = cc
written_at (s ∷ head) zero zero w e h = let same : (s.0, w) ≡ e = cc in inl (refl, ap (λ (x : Series). x.1) (sym same), ap (λ (x : Series). Some x.0) same)
written_at (s ∷ head) zero (suc j) w e h = inr ((λ k. omega arith), h)
written_at (s ∷ head) (suc i) zero w e h = inr ((λ k. omega arith), h)
written_at (s ∷ head) (suc i) (suc j) w e h = by (written_at head i j w e h) where
  by : ((j ≡ i) × (e.1 ≡ w) × (slice_get (sets_of head) i ≡ Some e.0)) ⊎ ((j ≢ i) × (slice_get head j ≡ Some e))
      → ((suc j ≡ suc i) × (e.1 ≡ w) × (slice_get (sets_of head) i ≡ Some e.0)) ⊎ ((suc j ≢ suc i) × (slice_get head j ≡ Some e))
  by (inl k) = inl (ap suc k.0, k.1, k.2)
  by (inr k) = inr ((λ same. k.0 (omega arith)), k.1)

pub set_at : (head : List Series) (i : ℕ) (e : Series) → slice_get head i ≡ Some e → slice_get (sets_of head) i ≡ Some e.0
set_at [] i e h = cc
set_at (s ∷ head) zero e h = let same : s ≡ e = cc in ap (λ (x : Series). Some x.0) same
set_at (s ∷ head) (suc i) e h = set_at head i e h

pub written_same : (head : List Series) (i : ℕ) (e : Series) → slice_get head i ≡ Some e → set_value_at head i e.1 ≡ head
written_same [] i e h = refl
written_same (s ∷ head) zero e h = let same : s ≡ e = cc in ap (λ (x : Series). (s.0, x.1) ∷ head) (sym same)
written_same (s ∷ head) (suc i) e h = ap (λ l. s ∷ l) (written_same head i e h)

pub entry_at : (head : List Series) (i : ℕ) (l : List Pair) → slice_get (sets_of head) i ≡ Some l → (s : Stored) × (slice_get head i ≡ Some (l, s))
entry_at [] i l h = cc
entry_at (s ∷ head) zero l h = let same : s.0 ≡ l = cc in (s.1, ap (λ k. Some (k, s.1)) same)
entry_at (s ∷ head) (suc i) l h = entry_at head i l h

pub value_at : (head : List Series) (i : ℕ) (v : Stored) → slice_get (map (λ e. e.1) head) i ≡ Some v → (l : List Pair) × (slice_get head i ≡ Some (l, v))
value_at [] i v h = cc
value_at (s ∷ head) zero v h = let same : s.1 ≡ v = cc in (s.0, ap (λ k. Some (s.0, k)) same)
value_at (s ∷ head) (suc i) v h = value_at head i v h

pub value_same : (head : List Series) (i : ℕ) (v : Stored) (e : Series) → slice_get (map (λ e. e.1) head) i ≡ Some v → slice_get head i ≡ Some e → e.1 ≡ v
value_same head i v e h k = let found = value_at head i v h in let same : e ≡ (found.0, v) = cc (k, found.1) in ap (λ (x : Series). x.1) same

at_from : (l : List Pair) (sets : List (List Pair)) (n j : ℕ) → position_from (labels_eq l) n sets ≡ Some j → (n ≤ j) × (slice_get sets (j - n) ≡ Some l)
at_from l [] n j h = cc
at_from l (s ∷ sets) n j h = by (labels_eq l s) refl h (at_from l sets (n + 1) j) where
  here : (k : ℕ) → k ≡ 0 → slice_get (s ∷ sets) k ≡ Some s
  here zero e = refl
  here (suc k) e = absurd (omega arith)

  next : (k m : ℕ) → k ≡ m + 1 → slice_get sets m ≡ Some l → slice_get (s ∷ sets) k ≡ Some l
  next zero m e at = absurd (omega arith)
  next (suc k) m e at = let same : k ≡ m = omega arith in ap (slice_get sets) same ∙ at

  by : (b : Bool) → labels_eq l s ≡ b → cond b (Some n) (position_from (labels_eq l) (n + 1) sets) ≡ Some j
      → (position_from (labels_eq l) (n + 1) sets ≡ Some j → (n + 1 ≤ j) × (slice_get sets (j - (n + 1)) ≡ Some l)) → (n ≤ j) × (slice_get (s ∷ sets) (j - n) ≡ Some l)
  by true e h more = let same : n ≡ j = cc in (omega arith, here (j - n) (omega arith) ∙ ap Some (sym (eq_from l s e)))
  by false e h more = let found = more h in let low = found.0 in (omega arith, next (j - n) (j - (n + 1)) (omega arith) found.1)

pub number_found : (l : List Pair) (sets : List (List Pair)) (i : ℕ) → position (labels_eq l) sets ≡ Some i → slice_get sets i ≡ Some l
number_found l sets i h = let same : i - 0 ≡ i = omega arith in subst (λ j. slice_get sets j ≡ Some l) same (at_from l sets 0 i (sym (position_from-zero (labels_eq l) sets) ∙ h)).1

pub number_is : (l : List Pair) (sets : List (List Pair)) (r : Option ℕ) → r ≡ position (labels_eq l) sets → IfSome r (λ i. slice_get sets i ≡ Some l)
number_is l sets None h = tt
number_is l sets (Some i) h = number_found l sets i (sym h)

-- a series has the labels that are found there
pub is_here : (head : List Series) (number : ℕ) (found labels : List Pair) → Some found ≡ option_map (λ e. e.0) (slice_get head number) → labels_eq found labels ≡ true
    → slice_get (sets_of head) number ≡ Some labels
is_here head number found labels there same = slice_get-map (λ (e : Series). e.0) head number ∙ sym there ∙ ap Some ((labels_decide found labels).0 same)

-- and only those
same_some : (a b : List Pair) → Some a ≡ Some b → a ≡ b
same_some a b h = cc

none_some : (a : List Pair) → None ≡ Some a → false ≡ true
none_some a h = cc

pub has_labels : (head : List Series) (number : ℕ) (found labels : List Pair) (answer : Bool) → Some found ≡ option_map (λ e. e.0) (slice_get head number) → labels_eq found labels ≡ answer
    → (answer ≡ true) ↔ (slice_get (sets_of head) number ≡ Some labels)
has_labels head number found labels answer there same = (
  λ yes. is_here head number found labels there (same ∙ yes),
  λ at. sym same ∙ (labels_decide found labels).1 (same_some found labels (there ∙ sym (slice_get-map (λ (e : Series). e.0) head number) ∙ at)),
)

pub has_none : (head : List Series) (number : ℕ) (labels : List Pair) → None ≡ option_map (λ e. e.0) (slice_get head number) → (false ≡ true) ↔ (slice_get (sets_of head) number ≡ Some labels)
has_none head number labels there = (λ h. cc, λ at. none_some labels (there ∙ sym (slice_get-map (λ (e : Series). e.0) head number) ∙ at))

-- the series at the end
pub at_last : (head : List Series) (n : Series) (i : ℕ) (e : Series) → slice_get (head ++ n ∷ []) i ≡ Some e → (slice_get head i ≡ Some e) ⊎ (n ≡ e)
at_last [] n zero e h = inr cc
at_last [] n (suc i) e h = cc
at_last (s ∷ head) n zero e h = inl h
at_last (s ∷ head) n (suc i) e h = at_last head n i e h

-- what is kept of the series of one more entry, and of another
kept_more : (history : List Entry) (e : Entry) (labels : List Pair) (s : Stored) → e.labels ≡ labels → IsKept history labels s
    → IsKept (history ++ e ∷ []) labels (after_push s (timed e))
kept_more history e labels s same k = record {
  first = subst (λ l. s.first ≤ length l) (sym (samples_more labels history e same)) (omega (arith, length-append (samples_of history labels) (timed e ∷ []), k.first));
  held = ap (λ l. l ++ timed e ∷ []) k.held ∙ sym (drop-append-le s.first (samples_of history labels) (timed e ∷ []) k.first) ∙ ap (drop s.first) (sym (samples_more labels history e same));
  last = ap (option_map timed) (last_more labels history e same);
}

kept_other : (history : List Entry) (e : Entry) (labels : List Pair) (s : Stored) → e.labels ≢ labels → IsKept history labels s → IsKept (history ++ e ∷ []) labels s
kept_other history e labels s apart k = record {
  first = subst (λ l. s.first ≤ length l) (sym (samples_other labels history e apart)) k.first;
  held = k.held ∙ ap (drop s.first) (sym (samples_other labels history e apart));
  last = ap (option_map timed) (last_other labels history e apart) ∙ k.last;
}

kept_first : (history : List Entry) (e : Entry) → is_among e.labels (map (λ x. x.labels) history) ≡ false → IsKept (history ++ e ∷ []) e.labels (begun (timed e))
kept_first history e none = record {
  first = omega arith;
  held = ap (λ l. map timed l ++ timed e ∷ []) (sym (filter_none e.labels history none)) ∙ sym (samples_more e.labels history e refl);
  last = ap (option_map timed) (last_more e.labels history e refl);
}

-- the answer to a sample is that of the history
pub admitted_as : (history : List Entry) (labels : List Pair) (s : Stored) (x : Timed) → IsKept history labels s → admission s x ≡ admit history labels x.time x.point
admitted_as history labels s x k = by (last_entry (is_of labels) history) k.last where
  by : (o : Option Entry) → option_map timed o ≡ Some s.last → admission s x ≡ admit_after o x.time x.point
  by None h = cc
  by (Some e) h = let same : timed e ≡ s.last = cc in ap (λ (l : Timed). admission (stored s.first s.held l) x) (sym same)

pub added_later : (s : Stored) (x : Timed) → admission s x ≡ Added → s.last.time < x.time
added_later s x h = by (nat_lt s.last.time x.time) refl (s.last.time == x.time) (same_point s.last.point x.point) h where
  by : (b : Bool) → nat_lt s.last.time x.time ≡ b → (t u : Bool) → cond b Added (cond t (cond u Same (Conflict s.last.point)) (OutOfOrder s.last.time)) ≡ Added → s.last.time < x.time
  by true e t u h = grind (arith, common_steps)
  by false e true true h = cc
  by false e true false h = cc
  by false e false u h = cc

pub put_added : (history : List Entry) (e : Entry) (a : Append) → admit history e.labels e.time e.point ≡ a → a ≡ Added → put history e ≡ history ++ e ∷ []
put_added history e a h k = ap (λ x. put_by x history e) (h ∙ k)

pub put_refused : (history : List Entry) (e : Entry) (a : Append) → admit history e.labels e.time e.point ≡ a → a ≢ Added → put history e ≡ history
put_refused history e a h k = ap (λ x. put_by x history e) h ∙ by a k where
  by : (a : Append) → a ≢ Added → put_by a history e ≡ history
  by Added k = absurd (k refl)
  by Same k = refl
  by (OutOfOrder last) k = refl
  by (Conflict kept) k = refl

pub new_is_added : (head : List Series) (history : List Entry) (labels : List Pair) (time : ℕ) (point : Point) → Holds head history → lookup (labels_eq labels) head ≡ None → admit history labels time point ≡ Added
new_is_added head history labels time point h none =
    let absent : is_among labels (map (λ (e : Entry). e.labels) history) ≡ false = sym (among_arrivals labels history) ∙ ap (is_among labels) (sym h.numbered) ∙ lookup_none labels head none in
    ap (λ o. admit_after o time point) (last_none labels history absent)

-- a new series
pub holds_new : (head : List Series) (history : List Entry) (e : Entry) → Holds head history → lookup (labels_eq e.labels) head ≡ None
    → Holds (head ++ (e.labels, begun (timed e)) ∷ []) (history ++ e ∷ [])
holds_new head history e h none =
    let missing = lookup_none e.labels head none in
    let absent : is_among e.labels (map (λ (x : Entry). x.labels) history) ≡ false = sym (among_arrivals e.labels history) ∙ ap (is_among e.labels) (sym h.numbered) ∙ missing in
    record {
      numbered = map-append (λ (x : Series). x.0) head ((e.labels, begun (timed e)) ∷ []) ∙ ap (λ l. l ++ e.labels ∷ []) h.numbered
          ∙ ap (λ b. cond b (arrivals history) (arrivals history ++ e.labels ∷ [])) (sym (ap (is_among e.labels) (sym h.numbered) ∙ missing)) ∙ sym (arrivals_more history e);
      each = λ i x at. by i x (at_last head (e.labels, begun (timed e)) i x at) absent missing;
    } where
      by : (i : ℕ) (x : Series) → (slice_get head i ≡ Some x) ⊎ ((e.labels, begun (timed e)) ≡ x) → is_among e.labels (map (λ y. y.labels) history) ≡ false → is_among e.labels (sets_of head) ≡ false
          → IsKept (history ++ e ∷ []) x.0 x.1
      by i x (inl at) absent missing = kept_other history e x.0 x.1 (λ same. cc (among_at (sets_of head) i x.0 (set_at head i x at), ap (λ l. is_among l (sets_of head)) same)) (h.each i x at)
      by i x (inr is) absent missing = subst (λ (y : Series). IsKept (history ++ e ∷ []) y.0 y.1) is (kept_first history e absent)

-- a later sample of a series that is there
pub holds_more : (head : List Series) (history : List Entry) (e : Entry) (i : ℕ) (s : Stored) → Holds head history → slice_get head i ≡ Some (e.labels, s)
    → Holds (set_value_at head i (after_push s (timed e))) (history ++ e ∷ [])
holds_more head history e i s h at =
    let there : is_among e.labels (arrivals history) ≡ true = ap (is_among e.labels) (sym h.numbered) ∙ among_at (sets_of head) i e.labels (set_at head i (e.labels, s) at) in
    record {
      numbered = sets_written head i (after_push s (timed e)) ∙ h.numbered ∙ ap (λ b. cond b (arrivals history) (arrivals history ++ e.labels ∷ [])) (sym there) ∙ sym (arrivals_more history e);
      each = λ j x k. by j x (written_at head i j (after_push s (timed e)) x k);
    } where
      by : (j : ℕ) (x : Series) → ((j ≡ i) × (x.1 ≡ after_push s (timed e)) × (slice_get (sets_of head) i ≡ Some x.0)) ⊎ ((j ≢ i) × (slice_get head j ≡ Some x)) → IsKept (history ++ e ∷ []) x.0 x.1
      by j x (inl k) =
          let same : e.labels ≡ x.0 = cc (set_at head i (e.labels, s) at, k.2) in
          subst (IsKept (history ++ e ∷ []) x.0) (sym k.1) (kept_more history e x.0 s same (subst (λ l. IsKept history l s) same (h.each i (e.labels, s) at)))
      by j x (inr k) = kept_other history e x.0 x.1
          (λ same. k.0 (arrivals_apart history j i x.0 (subst (λ l. slice_get l j ≡ Some x.0) h.numbered (set_at head j x k.1))
          (subst (λ l. slice_get l i ≡ Some x.0) h.numbered (set_at head i (e.labels, s) at ∙ ap Some same))))
          (h.each j x k.1)

-- what was not forgotten stays so
until_more : (history : List Entry) (e : Entry) (labels : List Pair) (x : ℤ) → entries_until history labels x ≤ entries_until (history ++ e ∷ []) labels x
until_more history e labels x =
    let test : Entry → Bool = λ y. is_of labels y && is_until x y.time in
    let parts = ap length (filter-append test history (e ∷ [])) in
    omega (arith, parts, length-append (filter test history) (filter test (e ∷ [])))

pub whole_more : (head : List Series) (history : List Entry) (e : Entry) (i : ℕ) (s : Stored) (x : ℤ) → slice_get head i ≡ Some (e.labels, s) → IsWhole head history x
    → IsWhole (set_value_at head i (after_push s (timed e))) (history ++ e ∷ []) x
whole_more head history e i s x at h = λ j y k. by j y (written_at head i j (after_push s (timed e)) y k) where
  by : (j : ℕ) (y : Series) → ((j ≡ i) × (y.1 ≡ after_push s (timed e)) × (slice_get (sets_of head) i ≡ Some y.0)) ⊎ ((j ≢ i) × (slice_get head j ≡ Some y))
      → y.1.first ≤ entries_until (history ++ e ∷ []) y.0 x
  by j y (inl k) =
      let same : e.labels ≡ y.0 = cc (set_at head i (e.labels, s) at, k.2) in
      let before = h i (e.labels, s) at in
      let more = until_more history e e.labels x in
      let first = ap (λ (t : Stored). t.first) k.1 in
      subst (λ l. y.1.first ≤ entries_until (history ++ e ∷ []) l x) same (omega arith)
  by j y (inr k) = let before = h j y k.1 in let more = until_more history e y.0 x in omega arith

pub whole_new : (head : List Series) (history : List Entry) (e : Entry) (x : ℤ) → IsWhole head history x → IsWhole (head ++ (e.labels, begun (timed e)) ∷ []) (history ++ e ∷ []) x
whole_new head history e x h = λ j y k. by j y (at_last head (e.labels, begun (timed e)) j y k) where
  by : (j : ℕ) (y : Series) → (slice_get head j ≡ Some y) ⊎ ((e.labels, begun (timed e)) ≡ y) → y.1.first ≤ entries_until (history ++ e ∷ []) y.0 x
  by j y (inl k) = let before = h j y k in let more = until_more history e y.0 x in omega arith
  by j y (inr k) = let none = ap (λ (z : Series). z.1.first) k in omega arith
