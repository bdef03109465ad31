-- The series that are listed under a label, as series come.
use Rattle.std.proofs.Common.{◌≡◌, ◌≢◌, ℕ, zero, suc, ◌+◌, Bool, true, false, cond, ◌==◌, ◌&&◌, ◌||◌, ◌⊎◌, inl, inr, List, [], ◌∷◌, ◌++◌, length, filter, find, fold, slice_get, take, drop, None, Some, unwrap_or, refl, sym, ap, subst, ◌∙◌, arith}
use Rattle.std.specs.List.{AllByRecursion, list_any}
use Rattle.std.specs.Map.{keys_of, lookup, remove_entry, set_value}
use Rattle.std.specs.Option.{option_map}
use Rattle.std.specs.Str.{bytes_eq}
use Rattle.std.specs.BTreeMap.{insert_entry, is_at}
use Rattle.std.specs.Ordering.{is_eq, match_ordering}
use Rattle.std.specs.declared.cmp.Ordering.{Ordering}
use Rattle.std.specs.declared.cmp.Ordering.TheVariants.{Less, Equal, Greater}
use Rattle.std.proofs.lemmas.List.Elements.{filter-append}
use Rattle.std.proofs.lemmas.List.Sums.{fold-append}
use Rattle.pr_labels.specs.declared.pair.Pair.{Pair}
use Rattle.pr_labels.specs.LabelSet.{IsLabelSet, has_name, text_at, value_of}
use Rattle.pr_labels.specs.Order.{labels_cmp, labels_eq, labels_tie, pair_eq}
use Rattle.pr_labels.specs.Rising.{IsRising, is_among, placed, with_labels}
use Rattle.pr_labels.proofs.LabelLaws.{alike, none_above, same_names, value_hit, value_miss}
use Rattle.pr_labels.proofs.LabelOrder.{both, labels_decide, pair_decides, tied, rising_fold, among_fold, among_filter}
use Rattle.spec_history.specs.private.Laws.{has_values}
use Rattle.pr_head.specs.private.Holds.{chosen_of}
use Rattle.pr_head.specs.private.Index.{AreNumbered, IsEnough, IsIndexed, IsListing, Numbered, has_label, listing_of}
use Rattle.pr_head.proofs.Arrivals.{among_at, eq_same}

abbrev Sets : Type 0
Sets = List (List Pair)

-- one more series leaves those that are there at their numbers, and comes behind them
front_at : (sets : Sets) (labels l : List Pair) (i : ℕ) → slice_get sets i ≡ Some l → slice_get (sets ++ labels ∷ []) i ≡ Some l
front_at [] labels l i h = cc
front_at (s ∷ sets) labels l zero h = h
front_at (s ∷ sets) labels l (suc i) h = front_at sets labels l i h

last_at : (sets : Sets) (labels : List Pair) → slice_get (sets ++ labels ∷ []) (length sets) ≡ Some labels
last_at [] labels = refl
last_at (s ∷ sets) labels = last_at sets labels

numbers_front : (sets : Sets) (labels : List Pair) (es : Numbered) → AreNumbered sets es → AreNumbered (sets ++ labels ∷ []) es
numbers_front sets labels [] h = tt
numbers_front sets labels (e ∷ es) h = (front_at sets labels e.0 e.1 h.0, numbers_front sets labels es h.1)

numbers_with : (sets : Sets) (labels : List Pair) (n : ℕ) (es : Numbered) → slice_get sets n ≡ Some labels → AreNumbered sets es → AreNumbered sets (insert_entry labels_cmp es labels n)
numbers_with sets labels n [] new h = (new, tt)
numbers_with sets labels n (e ∷ es) new h = by (labels_cmp labels e.0) refl (numbers_with sets labels n es new h.1) where
  by : (o : Ordering) → labels_cmp labels e.0 ≡ o → AreNumbered sets (insert_entry labels_cmp es labels n)
      → AreNumbered sets (match_ordering o ((labels, n) ∷ e ∷ es) ((e.0, n) ∷ es) (e ∷ insert_entry labels_cmp es labels n))
  by Less is rest = (new, h)
  by Equal is rest = (new ∙ ap Some (tied labels e.0 is), h.1)
  by Greater is rest = (h.0, rest)

-- it comes to its place in label order
keys_with : (labels : List Pair) (n : ℕ) (es : Numbered) → keys_of (insert_entry labels_cmp es labels n) ≡ with_labels (keys_of es) labels
keys_with labels n [] = refl
keys_with labels n (e ∷ es) = by (labels_cmp labels e.0) (keys_with labels n es) where
  by : (o : Ordering) → keys_of (insert_entry labels_cmp es labels n) ≡ with_labels (keys_of es) labels
      → keys_of (match_ordering o ((labels, n) ∷ e ∷ es) ((e.0, n) ∷ es) (e ∷ insert_entry labels_cmp es labels n)) ≡ placed o labels e.0 (keys_of es) (with_labels (keys_of es) labels)
  by Less rest = refl
  by Equal rest = refl
  by Greater rest = ap (λ k. e.0 ∷ k) rest

chosen_more : (test : List Pair → Bool) (sets : Sets) (labels : List Pair) → chosen_of test (sets ++ labels ∷ []) ≡ cond (test labels) (with_labels (chosen_of test sets) labels) (chosen_of test sets)
chosen_more test sets labels =
    ap (fold with_labels []) (filter-append test sets (labels ∷ [])) ∙ fold-append with_labels [] (filter test sets) (filter test (labels ∷ [])) ∙ by (test labels) where
      by : (b : Bool) → fold with_labels (chosen_of test sets) (cond b (labels ∷ []) []) ≡ cond b (with_labels (chosen_of test sets) labels) (chosen_of test sets)
      by true = refl
      by false = refl

pub listing_more : (test : List Pair → Bool) (sets : Sets) (labels : List Pair) (es : Numbered) → IsListing test sets es
    → IsListing test (sets ++ labels ∷ []) (cond (test labels) (insert_entry labels_cmp es labels (length sets)) es)
listing_more test sets labels es h = record {
  in_order = in_order (test labels) ∙ sym (chosen_more test sets labels);
  numbers = numbers (test labels);
} where
  in_order : (b : Bool) → keys_of (cond b (insert_entry labels_cmp es labels (length sets)) es) ≡ cond b (with_labels (chosen_of test sets) labels) (chosen_of test sets)
  in_order true = keys_with labels (length sets) es ∙ ap (λ k. with_labels k labels) h.in_order
  in_order false = h.in_order

  numbers : (b : Bool) → AreNumbered (sets ++ labels ∷ []) (cond b (insert_entry labels_cmp es labels (length sets)) es)
  numbers true = numbers_with (sets ++ labels ∷ []) labels (length sets) es (last_at sets labels) (numbers_front sets labels es h.numbers)
  numbers false = numbers_front sets labels es h.numbers

listing_same : (test : List Pair → Bool) (sets : Sets) (es more : Numbered) → more ≡ es → IsListing test sets es → IsListing test sets more
listing_same test sets es more is h = subst (IsListing test sets) (sym is) h

fit_more : (sets : Sets) (labels : List Pair) → IsLabelSet labels → AllByRecursion IsLabelSet sets → AllByRecursion IsLabelSet (sets ++ labels ∷ [])
fit_more [] labels new h = (new, tt)
fit_more (s ∷ sets) labels new h = (h.0, fit_more sets labels new h.1)

-- so all are indexed that were, and one more
pub indexed_more : (all more : Numbered) (old new : List (Pair × Numbered)) (sets : Sets) (labels : List Pair) (n : ℕ) → IsLabelSet labels → n ≡ length sets → IsIndexed all old sets
    → more ≡ insert_entry labels_cmp all labels n
    → ((other : Pair) → listing_of new other ≡ cond (has_label other labels) (insert_entry labels_cmp (listing_of old other) labels n) (listing_of old other))
    → IsIndexed more new (sets ++ labels ∷ [])
indexed_more all more old new sets labels n set size h every each = record {
  fit = fit_more sets labels set h.fit;
  every = listing_same (λ l. true) (sets ++ labels ∷ []) (insert_entry labels_cmp all labels (length sets)) more (every ∙ ap (insert_entry labels_cmp all labels) size) (listing_more (λ l. true) sets labels all h.every);
  each = λ other. listing_same (has_label other) (sets ++ labels ∷ []) (cond (has_label other labels) (insert_entry labels_cmp (listing_of old other) labels (length sets)) (listing_of old other)) (listing_of new other)
      (each other ∙ ap (λ k. cond (has_label other labels) (insert_entry labels_cmp (listing_of old other) labels k) (listing_of old other)) size)
      (listing_more (has_label other) sets labels (listing_of old other) (h.each other));
}

pub indexed_same : (all more : Numbered) (old new : List (Pair × Numbered)) (sets : Sets) → IsIndexed all old sets → more ≡ all → ((other : Pair) → listing_of new other ≡ listing_of old other) → IsIndexed more new sets
indexed_same all more old new sets h every each = record {
  fit = h.fit;
  every = listing_same (λ l. true) sets all more every h.every;
  each = λ other. listing_same (has_label other) sets (listing_of old other) (listing_of new other) (each other) (h.each other);
}

pub indexed_none : IsIndexed [] [] []
indexed_none = record { fit = tt; every = record { in_order = refl; numbers = tt }; each = λ other. record { in_order = refl; numbers = tt } }

is_equal : (o : Ordering) → is_eq o ≡ true → o ≡ Equal
is_equal Less h = cc
is_equal Equal h = refl
is_equal Greater h = cc

same_order : (labels : List Pair) → labels_cmp labels labels ≡ Equal
same_order labels = is_equal (labels_cmp labels labels) (sym (labels_tie labels labels) ∙ eq_same labels)

-- a series that is not there is not listed
pub absent : (labels : List Pair) (sets : Sets) (es : Numbered) → AreNumbered sets es → is_among labels sets ≡ false → lookup (is_at (labels_cmp labels)) es ≡ None
absent labels sets [] h none = refl
absent labels sets (e ∷ es) h none = by (is_eq (labels_cmp labels e.0)) refl (absent labels sets es h.1 none) where
  by : (b : Bool) → is_eq (labels_cmp labels e.0) ≡ b → lookup (is_at (labels_cmp labels)) es ≡ None → cond b (Some e.1) (lookup (is_at (labels_cmp labels)) es) ≡ None
  by true is rest =
      let same : labels ≡ e.0 = (labels_decide labels e.0).0 (labels_tie labels e.0 ∙ is) in
      let there : is_among labels sets ≡ true = among_at sets e.1 labels (h.0 ∙ ap Some (sym same)) in
      cc
  by false is rest = rest

-- what stands under a label is written over, and nothing else
here : (es : List (Pair × Numbered)) (label : Pair) (v w : Numbered) → lookup (pair_eq label) es ≡ Some v → lookup (pair_eq label) (set_value (pair_eq label) es w) ≡ Some w
here [] label v w h = cc
here (e ∷ es) label v w h = by (pair_eq label e.0) refl h (here es label v w) where
  by : (b : Bool) → pair_eq label e.0 ≡ b → cond b (Some e.1) (lookup (pair_eq label) es) ≡ Some v → (lookup (pair_eq label) es ≡ Some v → lookup (pair_eq label) (set_value (pair_eq label) es w) ≡ Some w)
      → lookup (pair_eq label) (cond b ((e.0, w) ∷ es) (e ∷ set_value (pair_eq label) es w)) ≡ Some w
  by true is h more = ap (λ c. cond c (Some w) (lookup (pair_eq label) es)) is
  by false is h more = ap (λ c. cond c (Some e.1) (lookup (pair_eq label) (set_value (pair_eq label) es w))) is ∙ more h

elsewhere : (es : List (Pair × Numbered)) (label other : Pair) (w : Numbered) → pair_eq other label ≡ false → lookup (pair_eq other) (set_value (pair_eq label) es w) ≡ lookup (pair_eq other) es
elsewhere [] label other w apart = refl
elsewhere (e ∷ es) label other w apart = by (pair_eq label e.0) refl (elsewhere es label other w apart) where
  by : (b : Bool) → pair_eq label e.0 ≡ b → lookup (pair_eq other) (set_value (pair_eq label) es w) ≡ lookup (pair_eq other) es
      → lookup (pair_eq other) (cond b ((e.0, w) ∷ es) (e ∷ set_value (pair_eq label) es w)) ≡ cond (pair_eq other e.0) (Some e.1) (lookup (pair_eq other) es)
  by true is rest =
      let no : pair_eq other e.0 ≡ false = ap (pair_eq other) (sym ((pair_decides label e.0).0 is)) ∙ apart in
      ap (λ c. cond c (Some w) (lookup (pair_eq other) es)) no ∙ sym (ap (λ c. cond c (Some e.1) (lookup (pair_eq other) es)) no)
  by false is rest = ap (λ l. cond (pair_eq other e.0) (Some e.1) l) rest

pub written : (f : Numbered → Numbered) (es new : List (Pair × Numbered)) (label other : Pair) (v w : Numbered) → Some v ≡ lookup (pair_eq label) es → new ≡ set_value (pair_eq label) es w → w ≡ f v
    → listing_of new other ≡ cond (pair_eq other label) (f (listing_of es other)) (listing_of es other)
written f es new label other v w there is next = ap (λ l. listing_of l other) is ∙ by (pair_eq other label) refl where
  by : (b : Bool) → pair_eq other label ≡ b → listing_of (set_value (pair_eq label) es w) other ≡ cond b (f (listing_of es other)) (listing_of es other)
  by true tie =
      let same : other ≡ label = (pair_decides other label).0 tie in
      ap (listing_of (set_value (pair_eq label) es w)) same ∙ ap (λ o. unwrap_or o []) (here es label v w (sym there)) ∙ next
      ∙ ap (λ o. f (unwrap_or o [])) there ∙ ap (λ l. f (listing_of es l)) (sym same)
  by false apart = ap (λ o. unwrap_or o []) (elsewhere es label other w apart)

pub same_written : (es new : List (Pair × Numbered)) (label other : Pair) (v w : Numbered) → Some v ≡ lookup (pair_eq label) es → new ≡ set_value (pair_eq label) es w → w ≡ v → listing_of new other ≡ listing_of es other
same_written es new label other v w there is same = written (λ l. l) es new label other v w there is same ∙ by (pair_eq other label) where
  by : (b : Bool) → cond b (listing_of es other) (listing_of es other) ≡ listing_of es other
  by true = refl
  by false = refl

flips : (p q : Pair) → pair_eq p q ≡ pair_eq q p
flips p q = by (pair_eq p q) refl (pair_eq q p) refl where
  by : (a : Bool) → pair_eq p q ≡ a → (b : Bool) → pair_eq q p ≡ b → a ≡ b
  by true e true f = refl
  by true e false f = sym (sym f ∙ (pair_decides q p).1 (sym ((pair_decides p q).0 e)))
  by false e true f = sym e ∙ (pair_decides p q).1 (sym ((pair_decides q p).0 f))
  by false e false f = refl

-- the first that stands under a label
pub begun_under : (old new : List (Pair × Numbered)) (label other : Pair) (labels : List Pair) (n : ℕ) (listing : Numbered) → listing_of old label ≡ [] → listing ≡ (labels, n) ∷ []
    → lookup (pair_eq other) new ≡ cond (pair_eq label other) (Some listing) (lookup (pair_eq other) old)
    → listing_of new other ≡ cond (pair_eq other label) (insert_entry labels_cmp (listing_of old other) labels n) (listing_of old other)
begun_under old new label other labels n listing none first is =
    ap (λ o. unwrap_or o []) is ∙ ap (λ b. unwrap_or (cond b (Some listing) (lookup (pair_eq other) old)) []) (flips label other) ∙ by (pair_eq other label) refl where
      by : (b : Bool) → pair_eq other label ≡ b → unwrap_or (cond b (Some listing) (lookup (pair_eq other) old)) [] ≡ cond b (insert_entry labels_cmp (listing_of old other) labels n) (listing_of old other)
      by true tie =
          let empty : listing_of old other ≡ [] = ap (listing_of old) ((pair_decides other label).0 tie) ∙ none in
          first ∙ ap (λ es. insert_entry labels_cmp es labels n) (sym empty)
      by false apart = refl

-- to take away what is not there changes nothing, and what was put there leaves what was before
pub none_removed : (labels : List Pair) (es : Numbered) → lookup (is_at (labels_cmp labels)) es ≡ None → remove_entry (is_at (labels_cmp labels)) es ≡ es
none_removed labels [] h = refl
none_removed labels (e ∷ es) h = by (is_eq (labels_cmp labels e.0)) h (none_removed labels es) where
  by : (b : Bool) → cond b (Some e.1) (lookup (is_at (labels_cmp labels)) es) ≡ None → (lookup (is_at (labels_cmp labels)) es ≡ None → remove_entry (is_at (labels_cmp labels)) es ≡ es)
      → cond b es (e ∷ remove_entry (is_at (labels_cmp labels)) es) ≡ e ∷ es
  by true h more = cc
  by false h more = ap (λ l. e ∷ l) (more h)

pub removed_again : (labels : List Pair) (n : ℕ) (es : Numbered) → lookup (is_at (labels_cmp labels)) es ≡ None → remove_entry (is_at (labels_cmp labels)) (insert_entry labels_cmp es labels n) ≡ es
removed_again labels n [] h = ap (λ o. cond (is_eq o) [] ((labels, n) ∷ [])) (same_order labels)
removed_again labels n (e ∷ es) h = by (labels_cmp labels e.0) refl h (removed_again labels n es) where
  by : (o : Ordering) → labels_cmp labels e.0 ≡ o → cond (is_eq o) (Some e.1) (lookup (is_at (labels_cmp labels)) es) ≡ None
      → (lookup (is_at (labels_cmp labels)) es ≡ None → remove_entry (is_at (labels_cmp labels)) (insert_entry labels_cmp es labels n) ≡ es)
      → remove_entry (is_at (labels_cmp labels)) (match_ordering o ((labels, n) ∷ e ∷ es) ((e.0, n) ∷ es) (e ∷ insert_entry labels_cmp es labels n)) ≡ e ∷ es
  by Less is h more = ap (λ o. cond (is_eq o) (e ∷ es) ((labels, n) ∷ remove_entry (is_at (labels_cmp labels)) (e ∷ es))) (same_order labels)
  by Equal is h more = cc
  by Greater is h more = ap (λ o. cond (is_eq o) (insert_entry labels_cmp es labels n) (e ∷ remove_entry (is_at (labels_cmp labels)) (insert_entry labels_cmp es labels n))) is ∙ ap (λ l. e ∷ l) (more h)

-- one that was put there twice was put there once
again_with : (labels : List Pair) (n : ℕ) (es : Numbered) → insert_entry labels_cmp (insert_entry labels_cmp es labels n) labels n ≡ insert_entry labels_cmp es labels n
again_with labels n [] = ap (λ o. match_ordering o ((labels, n) ∷ (labels, n) ∷ []) ((labels, n) ∷ []) ((labels, n) ∷ (labels, n) ∷ [])) (same_order labels)
again_with labels n (e ∷ es) = by (labels_cmp labels e.0) refl (again_with labels n es) where
  by : (o : Ordering) → labels_cmp labels e.0 ≡ o → insert_entry labels_cmp (insert_entry labels_cmp es labels n) labels n ≡ insert_entry labels_cmp es labels n
      → insert_entry labels_cmp (match_ordering o ((labels, n) ∷ e ∷ es) ((e.0, n) ∷ es) (e ∷ insert_entry labels_cmp es labels n)) labels n
      ≡ match_ordering o ((labels, n) ∷ e ∷ es) ((e.0, n) ∷ es) (e ∷ insert_entry labels_cmp es labels n)
  by Less is rest = ap (λ o. match_ordering o ((labels, n) ∷ (labels, n) ∷ e ∷ es) ((labels, n) ∷ e ∷ es) ((labels, n) ∷ insert_entry labels_cmp (e ∷ es) labels n)) (same_order labels)
  by Equal is rest = ap (λ o. match_ordering o ((labels, n) ∷ (e.0, n) ∷ es) ((e.0, n) ∷ es) ((e.0, n) ∷ insert_entry labels_cmp es labels n)) is
  by Greater is rest =
      ap (λ o. match_ordering o ((labels, n) ∷ e ∷ insert_entry labels_cmp es labels n) ((e.0, n) ∷ insert_entry labels_cmp es labels n) (e ∷ insert_entry labels_cmp (insert_entry labels_cmp es labels n) labels n)) is
      ∙ ap (λ l. e ∷ l) rest

-- one more label of the series
with_next : (seen next : Bool) (labels : List Pair) (n : ℕ) (es : Numbered)
    → cond next (insert_entry labels_cmp (cond seen (insert_entry labels_cmp es labels n) es) labels n) (cond seen (insert_entry labels_cmp es labels n) es)
    ≡ cond (seen || next) (insert_entry labels_cmp es labels n) es
with_next true true labels n es = again_with labels n es
with_next true false labels n es = refl
with_next false true labels n es = refl
with_next false false labels n es = refl

any_more : (test : Pair → Bool) (k : ℕ) (p : Pair) (ps : List Pair) → slice_get ps k ≡ Some p → list_any test (take (k + 1) ps) ≡ (list_any test (take k ps) || test p)
any_more test k p [] h = cc
any_more test zero p (q ∷ ps) h = let same : q ≡ p = cc in by (test q) ∙ ap test same where
  by : (b : Bool) → (b || false) ≡ b
  by true = refl
  by false = refl
any_more test (suc k) p (q ∷ ps) h =
    let next : suc k + 1 ≡ suc (k + 1) = omega arith in
    ap (λ m. list_any test (take m (q ∷ ps))) next ∙ ap (λ c. test q || c) (any_more test k p ps h) ∙ sym (or_assoc (test q) (list_any test (take k ps)) (test p)) where
      or_assoc : (a b c : Bool) → ((a || b) || c) ≡ (a || (b || c))
      or_assoc true b c = refl
      or_assoc false b c = refl

any_next : (test : Pair → Bool) (k : ℕ) (p : Pair) (ps : List Pair) → slice_get ps k ≡ Some p → list_any test (drop k ps) ≡ (test p || list_any test (drop (k + 1) ps))
any_next test k p [] h = cc
any_next test zero p (q ∷ ps) h = let same : q ≡ p = cc in ap (λ r. test r || list_any test ps) same
any_next test (suc k) p (q ∷ ps) h = let next : suc k + 1 ≡ suc (k + 1) = omega arith in any_next test k p ps h ∙ ap (λ m. test p || list_any test (drop m (q ∷ ps))) (sym next)

none_taken : (test : Pair → Bool) (k : ℕ) (ps : List Pair) → list_any test ps ≡ false → list_any test (take k ps) ≡ false
none_taken test zero [] h = refl
none_taken test (suc k) [] h = refl
none_taken test zero (p ∷ ps) h = refl
none_taken test (suc k) (p ∷ ps) h = by (test p) h (none_taken test k ps) where
  by : (b : Bool) → (b || list_any test ps) ≡ false → (list_any test ps ≡ false → list_any test (take k ps) ≡ false) → (b || list_any test (take k ps)) ≡ false
  by true h more = cc
  by false h more = more h

-- what stands under a label once the series is put there for one more of its labels
pub added_more : (pairs : List Pair) (k : ℕ) (p other : Pair) (labels : List Pair) (n : ℕ) (es now next : Numbered) → slice_get pairs k ≡ Some p
    → now ≡ cond (has_label other (take k pairs)) (insert_entry labels_cmp es labels n) es → next ≡ cond (pair_eq other p) (insert_entry labels_cmp now labels n) now
    → next ≡ cond (has_label other (take (k + 1) pairs)) (insert_entry labels_cmp es labels n) es
added_more pairs k p other labels n es now next at is step =
    step ∙ ap (λ x. cond (pair_eq other p) (insert_entry labels_cmp x labels n) x) is ∙ with_next (has_label other (take k pairs)) (pair_eq other p) labels n es
    ∙ ap (λ b. cond b (insert_entry labels_cmp es labels n) es) (sym (any_more (pair_eq other) k p pairs at))

-- it is taken away again from where it was put
pub some_removed : (seen : Bool) (labels : List Pair) (n : ℕ) (es now : Numbered) → lookup (is_at (labels_cmp labels)) es ≡ None → now ≡ cond seen (insert_entry labels_cmp es labels n) es
    → remove_entry (is_at (labels_cmp labels)) now ≡ es
some_removed true labels n es now none is = ap (remove_entry (is_at (labels_cmp labels))) is ∙ removed_again labels n es none
some_removed false labels n es now none is = ap (remove_entry (is_at (labels_cmp labels))) is ∙ none_removed labels es none

pub others_stay : (pairs : List Pair) (k : ℕ) (other : Pair) (labels : List Pair) (n : ℕ) (es now : Numbered) → has_label other pairs ≡ false
    → now ≡ cond (has_label other (take k pairs)) (insert_entry labels_cmp es labels n) es → now ≡ es
others_stay pairs k other labels n es now none is = is ∙ ap (λ b. cond b (insert_entry labels_cmp es labels n) es) (none_taken (pair_eq other) k pairs none)

pub removed_more : (pairs : List Pair) (k : ℕ) (p other : Pair) (labels : List Pair) (before now next : Numbered) → slice_get pairs k ≡ Some p
    → remove_entry (is_at (labels_cmp labels)) before ≡ before
    → (remove_entry (is_at (labels_cmp labels)) now ≡ before) × (has_label other (drop k pairs) ≡ false → now ≡ before)
    → next ≡ cond (pair_eq other p) (remove_entry (is_at (labels_cmp labels)) now) now
    → (remove_entry (is_at (labels_cmp labels)) next ≡ before) × (has_label other (drop (k + 1) pairs) ≡ false → next ≡ before)
removed_more pairs k p other labels before now next at same h = by (pair_eq other p) (any_next (pair_eq other) k p pairs at) where
  by : (b : Bool) → has_label other (drop k pairs) ≡ (b || has_label other (drop (k + 1) pairs)) → next ≡ cond b (remove_entry (is_at (labels_cmp labels)) now) now
      → (remove_entry (is_at (labels_cmp labels)) next ≡ before) × (has_label other (drop (k + 1) pairs) ≡ false → next ≡ before)
  by true e step = (ap (remove_entry (is_at (labels_cmp labels))) (step ∙ h.0) ∙ same, λ none. step ∙ h.0)
  by false e step = (ap (remove_entry (is_at (labels_cmp labels))) step ∙ h.0, λ none. step ∙ h.1 (e ∙ none))

-- a series that has some values is listed under the labels that they make
value_asked : (equal labels : List Pair) (k : ℕ) (label : Pair) → slice_get equal k ≡ Some label → has_values equal labels ≡ true → bytes_eq (text_at labels label.name) label.value ≡ true
value_asked [] labels k label at h = cc
value_asked (q ∷ equal) labels zero label at h = let same : q ≡ label = cc in subst (λ (p : Pair). bytes_eq (text_at labels p.name) p.value ≡ true) same (both (bytes_eq (text_at labels q.name) q.value) (has_values equal labels) h).0
value_asked (q ∷ equal) labels (suc k) label at h = value_asked equal labels k label at (both (bytes_eq (text_at labels q.name) q.value) (has_values equal labels) h).1

label_listed : (labels : List Pair) (label : Pair) → label.value ≢ [] → text_at labels label.name ≡ label.value → has_label label labels ≡ true
label_listed [] label some is = absurd (some (sym is))
label_listed (p ∷ labels) label some is = by (has_name label.name p) refl is (label_listed labels label some) where
  by : (b : Bool) → has_name label.name p ≡ b → unwrap_or (option_map (λ q. q.value) (cond b (Some p) (find (has_name label.name) labels))) [] ≡ label.value
      → (text_at labels label.name ≡ label.value → has_label label labels ≡ true) → (pair_eq label p || has_label label labels) ≡ true
  by true e is more =
      let name : p.name ≡ label.name = same_names p.name label.name e in
      let same : label ≡ p = (λ i. record { name = sym name i; value = sym is i }) in
      ap (λ b. b || has_label label labels) ((pair_decides label p).1 same)
  by false e is more = one (pair_eq label p) (more is) where
    one : (b : Bool) → has_label label labels ≡ true → (b || has_label label labels) ≡ true
    one true h = refl
    one false h = h

pub enough_listed : (test : List Pair → Bool) (equal : List Pair) (sets : Sets) (es : Numbered) → ((labels : List Pair) → has_values equal labels ≡ true → test labels ≡ true)
    → IsListing test sets es → IsEnough equal sets es
enough_listed test equal sets es asked h = record {
  rising = subst IsRising (sym h.in_order) (rising_fold [] (filter test sets) tt);
  numbers = h.numbers;
  wanted = λ labels has. ap (is_among labels) h.in_order ∙ among_fold labels [] (filter test sets) ∙ among_filter test labels sets ∙ ap (λ b. b && is_among labels sets) (asked labels has);
}

pub enough_all : (equal : List Pair) (all : Numbered) (by_label : List (Pair × Numbered)) (sets : Sets) → IsIndexed all by_label sets → IsEnough equal sets all
enough_all equal all by_label sets h = enough_listed (λ l. true) equal sets all (λ labels has. refl) h.every

pub enough_labelled : (equal : List Pair) (k : ℕ) (label : Pair) (all : Numbered) (by_label : List (Pair × Numbered)) (sets : Sets) → slice_get equal k ≡ Some label → label.value ≢ []
    → IsIndexed all by_label sets → IsEnough equal sets (listing_of by_label label)
enough_labelled equal k label all by_label sets at some h =
    enough_listed (has_label label) equal sets (listing_of by_label label)
    (λ labels has. label_listed labels label some (same_names (text_at labels label.name) label.value (value_asked equal labels k label at has)))
    (h.each label)

pub some_text : (text : List ℕ) (b : Bool) → b ≡ (length text == 0) → b ≡ false → text ≢ []
some_text [] b h k = λ e. cc
some_text (x ∷ text) b h k = λ e. cc

-- those of a label are enough, and so are these others
pub enough_of_two : (equal : List Pair) (k : ℕ) (label : Pair) (all : Numbered) (by_label : List (Pair × Numbered)) (sets : Sets) (listing others one : Numbered)
    → listing ≡ listing_of by_label label → (one ≡ listing) ⊎ (one ≡ others) → slice_get equal k ≡ Some label → label.value ≢ []
    → IsIndexed all by_label sets → IsEnough equal sets others → IsEnough equal sets one
enough_of_two equal k label all by_label sets listing others one is (inl e) at some indexed enough =
    subst (IsEnough equal sets) (sym (e ∙ is)) (enough_labelled equal k label all by_label sets at some indexed)
enough_of_two equal k label all by_label sets listing others one is (inr e) at some indexed enough = subst (IsEnough equal sets) (sym e) enough

-- a label of a label set is the value of its name
value_of_label : (label : Pair) (labels : List Pair) → label.value ≢ [] → IsLabelSet labels → has_label label labels ≡ true → text_at labels label.name ≡ label.value
value_of_label label [] some set h = cc
value_of_label label (p ∷ ps) some set h = by (pair_eq label p) refl h (value_of_label label ps some set.2) where
  by : (b : Bool) → pair_eq label p ≡ b → (b || has_label label ps) ≡ true → (has_label label ps ≡ true → text_at ps label.name ≡ label.value) → text_at (p ∷ ps) label.name ≡ label.value
  by true is h more =
      let same : label ≡ p = (pair_decides label p).0 is in
      ap (λ o. unwrap_or o []) (value_hit p ps label.name (ap (λ (q : Pair). bytes_eq p.name q.name) same ∙ alike p.name)) ∙ ap (λ (q : Pair). q.value) (sym same)
  by false is h more = named (bytes_eq p.name label.name) refl (more h) where
    named : (b : Bool) → bytes_eq p.name label.name ≡ b → text_at ps label.name ≡ label.value → text_at (p ∷ ps) label.name ≡ label.value
    named true name there =
        let none : value_of ps label.name ≡ None = ap (value_of ps) (sym (same_names p.name label.name name)) ∙ none_above p.name ps set.2 set.1 in
        absurd (some (sym there ∙ ap (λ o. unwrap_or o []) none))
    named false name there = ap (λ o. unwrap_or o []) (value_miss p ps label.name name) ∙ there

has_value : (label : Pair) (labels : List Pair) → label.value ≢ [] → IsLabelSet labels → has_label label labels ≡ true → has_values (label ∷ []) labels ≡ true
has_value label labels some set h = ap (λ t. bytes_eq t label.value && true) (value_of_label label labels some set h) ∙ ap (λ b. b && true) (alike label.value)

set_at : (sets : Sets) (i : ℕ) (l : List Pair) → AllByRecursion IsLabelSet sets → slice_get sets i ≡ Some l → IsLabelSet l
set_at [] i l h at = cc
set_at (s ∷ sets) zero l h at = let same : s ≡ l = cc in subst IsLabelSet same h.0
set_at (s ∷ sets) (suc i) l h at = set_at sets i l h.1 at

or_later : (a b : Bool) → b ≡ true → (a || b) ≡ true
or_later true b h = refl
or_later false b h = h

-- of the series that are listed under a label each has its value
all_pass : (label : Pair) (sets : Sets) (es : Numbered) → label.value ≢ [] → AllByRecursion IsLabelSet sets → AreNumbered sets es
    → ((one : List Pair) → is_among one (keys_of es) ≡ true → has_label label one ≡ true) → filter (λ e. has_values (label ∷ []) e.0) es ≡ es
all_pass label sets [] some fit numbers listed = refl
all_pass label sets (e ∷ es) some fit numbers listed =
    let rest = filter (λ (x : List Pair × ℕ). has_values (label ∷ []) x.0) es in
    ap (λ b. cond b (e ∷ rest) rest) (has_value label e.0 some (set_at sets e.1 e.0 fit numbers.0) (listed e.0 (ap (λ b. b || is_among e.0 (keys_of es)) (eq_same e.0))))
    ∙ ap (λ l. e ∷ l) (all_pass label sets es some fit numbers.1 (λ one k. listed one (or_later (labels_eq one e.0) (is_among one (keys_of es)) k)))

all_listed_pass : (label : Pair) (all : Numbered) (by_label : List (Pair × Numbered)) (sets : Sets) → label.value ≢ [] → IsIndexed all by_label sets
    → filter (λ e. has_values (label ∷ []) e.0) (listing_of by_label label) ≡ listing_of by_label label
all_listed_pass label all by_label sets some h = all_pass label sets (listing_of by_label label) some h.fit (h.each label).numbers (λ one k.
    (both (has_label label one) (is_among one sets)
    (sym (ap (is_among one) (h.each label).in_order ∙ among_fold one [] (filter (has_label label) sets) ∙ among_filter (has_label label) one sets) ∙ k)).0)

-- so those that are listed under the only label that is asked for are enough, and all are chosen
pub alone : (equal : List Pair) (label : Pair) (all : Numbered) (by_label : List (Pair × Numbered)) (sets : Sets) (es : Numbered) → equal ≡ label ∷ [] → label.value ≢ [] → es ≡ listing_of by_label label
    → IsIndexed all by_label sets → IsEnough equal sets es × (filter (λ e. has_values equal e.0) es ≡ es)
alone equal label all by_label sets es only some is h =
    subst (λ q. IsEnough q sets es × (filter (λ e. has_values q e.0) es ≡ es)) (sym only)
    (subst (λ l. IsEnough (label ∷ []) sets l × (filter (λ e. has_values (label ∷ []) e.0) l ≡ l)) (sym is)
    (enough_labelled (label ∷ []) 0 label all by_label sets refl some h, all_listed_pass label all by_label sets some h))
